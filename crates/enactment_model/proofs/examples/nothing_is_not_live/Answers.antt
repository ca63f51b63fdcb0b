-- Nothing is not live, from its lemma.
use Rattle.enactment_model.proofs.ExampleLemmas.{nothing_is_not_live}
use Rattle.enactment_model.proofs.examples.nothing_is_not_live.Goals as goal

pub returns : goal.returns
returns c = nothing_is_not_live
