-- The law on order, from its lemma.
use Rattle.first_occurrences.proofs.OrderLemmas.{satisfies_order}
use Rattle.first_occurrences.proofs.laws.order_holds.Goals as goal

pub returns : goal.returns
returns c = satisfies_order
