-- The law on single producers, from its lemmas.
use Rattle.enactment_model.proofs.ProducerLemmas.{safe_by_one_producer}
use Rattle.enactment_model.proofs.laws.one_producer_is_safe.Goals as goal

pub returns : goal.returns
returns c = safe_by_one_producer
