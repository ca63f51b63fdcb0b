-- The value and its mark are put into one place.
use Rattle.std.proofs.Common.{◌≡◌, ◌+◌, ◌*◌, ◌<◌, length, Some, slice_set, subst, ◌∙◌}
use Rattle.local_store.specs.inner.Cells.{cells_of}
use Rattle.local_store.proofs.CellRowLemmas.{cell_filled}
use Rattle.local_store.proofs.cells.Cells.fill.Goals as goal

pub returns-clause-items : goal.returns-clause-items
returns-clause-items c =
    let s = c.self.inside in
    let place = c.args.row * s.filled.width + c.args.column in
    let values = subst (λ w. c.set.new.self.items ≡ slice_set s.values.items (c.args.row * w + c.args.column) c.args.value) c.self.invariant.0 c.set.ensures.items in
    let within = subst (λ w. c.args.row * w + c.args.column < length s.values.items) c.self.invariant.0 c.set.ensures.within in
    subst (λ t. cells_of c.set-2.new.self.items c.set.new.self.items ≡ slice_set t.items (c.args.row * t.width + c.args.column) (Some c.args.value)) c.self.view_is
    ((λ j. cells_of (c.set-2.ensures.items j) (values j)) ∙ cell_filled s.filled.items s.values.items place c.args.value within)
