-- The projection law, from its lemma.
use Rattle.enactment_model.proofs.EnactmentLemmas.{keeps_enactment}
use Rattle.enactment_model.proofs.laws.projection_keeps.Goals as goal

pub returns : goal.returns
returns c = keeps_enactment c.equal_values_are_one.ensures.lists
