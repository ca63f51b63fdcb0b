-- The cells are as many as the marks.
use Rattle.std.proofs.Common.{◌≡◌, ◌*◌, length, subst, ◌∙◌}
use Rattle.local_store.proofs.CellRowLemmas.{length-cells}
use Rattle.local_store.proofs.cells.Cells.width.Goals as goal

pub returns-clause-covers : goal.returns-clause-covers
returns-clause-covers c =
    let s = c.self.inside in
    subst (λ t. length t.items ≡ t.rows * t.width) c.self.view_is (length-cells s.filled.items s.values.items ∙ s.filled.covers)
