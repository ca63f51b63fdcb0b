-- No clause of the order is empty.
use Rattle.order_axioms.proofs.EmptyLemmas.{empty_after}
use Rattle.order_axioms.proofs.formula_clauses.FormulaClauses.has_empty.Goals as goal

pub returns : goal.returns
returns c =
    let fields = c.self.inside in
    let same = empty_after fields.numbers.order fields.stored.now in
    rw (← c.self.view_is) ((λ found. same.1 (c.any_empty.ensures.0 found), λ among. c.any_empty.ensures.1 (same.0 among)))
