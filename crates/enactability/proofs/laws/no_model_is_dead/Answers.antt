-- The law, from its lemma.
use Rattle.enactability.proofs.ModelLemmas.{dead_without}
use Rattle.enactability.proofs.laws.no_model_is_dead.Goals as goal

pub returns : goal.returns
returns c = dead_without c.equal_values_are_one.ensures.lists c.assignment_exists.ensures c.shared_clauses_hold.ensures c.written_is_satisfied.ensures
