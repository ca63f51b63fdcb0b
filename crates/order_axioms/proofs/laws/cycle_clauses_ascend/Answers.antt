-- The law, from its lemma.
use Rattle.order_axioms.proofs.VariableLemmas.{cycle_ascends}
use Rattle.order_axioms.proofs.laws.cycle_clauses_ascend.Goals as goal

pub returns : goal.returns
returns c = cycle_ascends
