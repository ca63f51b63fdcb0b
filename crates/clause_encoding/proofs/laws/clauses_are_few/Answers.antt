-- The law, from its lemma.
use Rattle.clause_encoding.proofs.PropertyLemmas.{clauses_few}
use Rattle.clause_encoding.proofs.laws.clauses_are_few.Goals as goal

pub returns : goal.returns
returns c = clauses_few
