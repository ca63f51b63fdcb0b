-- The law on occurrence, from its lemma.
use Rattle.first_occurrences.proofs.OrderLemmas.{satisfies_occurrence}
use Rattle.first_occurrences.proofs.laws.occurrence_holds.Goals as goal

pub returns : goal.returns
returns c = satisfies_occurrence
