-- The law on violations, from its lemma.
use Rattle.enactment_model.proofs.PropertyLemmas.{violated}
use Rattle.enactment_model.proofs.laws.violated_does_not_hold.Goals as goal

pub returns : goal.returns
returns c = violated
