-- The law, by its lemma.
use Rattle.reference_graph.proofs.ResultLemmas.{has_order}
use Rattle.reference_graph.proofs.laws.acyclic_graphs_have_orders.Goals as goal

pub returns : goal.returns
returns c = has_order
