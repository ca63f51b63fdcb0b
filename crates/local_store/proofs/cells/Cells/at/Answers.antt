-- A cell has its value where its mark is set.
use Rattle.std.proofs.Common.{◌≡◌, ◌+◌, ◌*◌, true, None, Some, slice_get, subst}
use Rattle.local_store.proofs.CellRowLemmas.{cell_empty, cell_is}
use Rattle.local_store.proofs.cells.Cells.at.Goals as goal

pub returns-then-at : goal.returns-then-at
returns-then-at c =
    let s = c.self.inside in
    let found = c.at-then-at.result in
    let value = subst (λ w. slice_get s.values.items (c.args.row * w + c.args.column) ≡ Some found) c.self.invariant.0 c.at-then-at.ensures in
    subst (λ t. slice_get t.items (c.args.row * t.width + c.args.column) ≡ Some (Some found)) c.self.view_is
    (cell_is s.filled.items s.values.items (c.args.row * s.filled.width + c.args.column) true found c.if-at.ensures value)

pub returns-else-at : goal.returns-else-at
returns-else-at c =
    let s = c.self.inside in
    subst (λ t. slice_get t.items (c.args.row * t.width + c.args.column) ≡ Some None) c.self.view_is
    (cell_empty s.filled.items s.values.items (c.args.row * s.filled.width + c.args.column) c.if-at.ensures)
