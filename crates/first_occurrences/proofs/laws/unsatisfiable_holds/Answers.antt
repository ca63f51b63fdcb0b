-- The law on formulas without a model, from its lemma.
use Rattle.first_occurrences.proofs.PropertyLemmas.{holds}
use Rattle.first_occurrences.proofs.laws.unsatisfiable_holds.Goals as goal

pub returns : goal.returns
returns c = holds c.violation_has_model.ensures c.written_is_satisfied.ensures c.no_conflict_agrees.ensures c.bound_exactly_if_sent.ensures
