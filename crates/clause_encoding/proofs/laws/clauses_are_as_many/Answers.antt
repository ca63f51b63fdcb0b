-- The law, from its lemma.
use Rattle.clause_encoding.proofs.FormulaLemmas.{as_many}
use Rattle.clause_encoding.proofs.laws.clauses_are_as_many.Goals as goal

pub returns : goal.returns
returns c = as_many
