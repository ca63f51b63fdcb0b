-- The law is the lemma.
use Rattle.circuit_clauses.proofs.MeaningLemmas.{asserted_is_met}
use Rattle.circuit_clauses.proofs.laws.asserted_is_met.Goals as goal

pub returns : goal.returns
returns c = asserted_is_met
