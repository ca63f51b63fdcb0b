-- The law on assignments, from its lemma.
use Rattle.first_occurrences.proofs.ValuationLemmas.{valuation_exists}
use Rattle.first_occurrences.proofs.laws.assignment_exists.Goals as goal

pub returns : goal.returns
returns c = valuation_exists
