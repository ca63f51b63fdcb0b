-- The law on violations, from its lemma.
use Rattle.first_occurrences.proofs.PropertyLemmas.{model_of}
use Rattle.first_occurrences.proofs.laws.violation_has_model.Goals as goal

pub returns : goal.returns
returns c = model_of c.assignment_exists.ensures c.shared_clauses_hold.ensures c.rivals_hold.ensures c.rest_holds.ensures
