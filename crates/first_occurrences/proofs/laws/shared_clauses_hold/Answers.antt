-- The law on all shared families, from those of each.
use Rattle.first_occurrences.proofs.SharedLemmas.{satisfies_shared}
use Rattle.first_occurrences.proofs.laws.shared_clauses_hold.Goals as goal

pub returns : goal.returns
returns c = satisfies_shared c.order_holds.ensures c.occurrence_holds.ensures c.delivery_holds.ensures c.premises_hold.ensures c.freshness_holds.ensures
