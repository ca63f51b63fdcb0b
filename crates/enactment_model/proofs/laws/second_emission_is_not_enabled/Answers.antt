-- The law on second emissions, from its lemma.
use Rattle.enactment_model.proofs.ProducerLemmas.{never_again}
use Rattle.enactment_model.proofs.laws.second_emission_is_not_enabled.Goals as goal

pub returns : goal.returns
returns c = never_again
