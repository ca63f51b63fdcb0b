-- The law, from its lemma.
use Rattle.enactability.proofs.ModelLemmas.{exactly}
use Rattle.enactability.proofs.laws.dead_exactly_if_no_model.Goals as goal

pub returns : goal.returns
returns c = exactly c.equal_values_are_one.ensures.lists c.assignment_exists.ensures c.shared_clauses_hold.ensures c.model_enacts.ensures
