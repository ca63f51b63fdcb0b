-- The law, by its lemma.
use Rattle.reference_graph.proofs.LawLemmas.{no_cycle}
use Rattle.reference_graph.proofs.laws.orders_have_no_cycle.Goals as goal

pub returns : goal.returns
returns c = no_cycle
