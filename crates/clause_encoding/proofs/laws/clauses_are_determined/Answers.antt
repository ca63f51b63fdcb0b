-- The law, from its lemma.
use Rattle.clause_encoding.proofs.FormulaLemmas.{same_clauses}
use Rattle.clause_encoding.proofs.laws.clauses_are_determined.Goals as goal

pub returns : goal.returns
returns c = same_clauses c.equal_members.ensures
