-- The law on prefixes, from its lemmas.
use Rattle.enactment_model.proofs.LegalLemmas.{prefix_legal, prefix_legal_run}
use Rattle.enactment_model.proofs.laws.prefix_is_legal.Goals as goal

pub returns : goal.returns
returns c = record { legal = prefix_legal; run = prefix_legal_run }
