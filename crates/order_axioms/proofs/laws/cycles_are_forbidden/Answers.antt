-- The law, from its lemma.
use Rattle.order_axioms.proofs.CoverLemmas.{cycle_forbidden}
use Rattle.order_axioms.proofs.laws.cycles_are_forbidden.Goals as goal

pub returns : goal.returns
returns c = cycle_forbidden
