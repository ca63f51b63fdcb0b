-- The law on one entry more, from its lemmas.
use Rattle.stamped_history.proofs.ExtendedLemmas.{emission_keeps, receipt_keeps}
use Rattle.stamped_history.proofs.laws.extended_stay_explained.Goals as goal

pub returns : goal.returns
returns c = record { emission = emission_keeps; receipt = receipt_keeps }
