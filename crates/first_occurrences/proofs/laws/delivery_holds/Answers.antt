-- The law on delivery, from its lemma.
use Rattle.first_occurrences.proofs.DeliveryLemmas.{satisfies_delivery}
use Rattle.first_occurrences.proofs.laws.delivery_holds.Goals as goal

pub returns : goal.returns
returns c = satisfies_delivery c.legal_by_positions.ensures
