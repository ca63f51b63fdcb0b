-- The law, from its lemma.
use Rattle.clause_encoding.proofs.FormulaLemmas.{satisfied_exactly}
use Rattle.clause_encoding.proofs.laws.written_is_satisfied.Goals as goal

pub returns : goal.returns
returns c = satisfied_exactly
