-- The law, by its lemmas.
use Rattle.protocol_limits.proofs.GraphLemmas.{graph_is, length_graph, successors_at}
use Rattle.protocol_limits.proofs.laws.references_are_a_graph.Goals as goal

pub returns : goal.returns
returns c = record { graph = graph_is; nodes = length_graph; at = successors_at }
