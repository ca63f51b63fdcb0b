-- The law, from its lemma.
use Rattle.order_axioms.proofs.MemberLemmas.{clause_forbids}
use Rattle.order_axioms.proofs.laws.clauses_forbid_cycles.Goals as goal

pub returns : goal.returns
returns c = clause_forbids
