-- The law, by its lemmas.
use Rattle.protocol_limits.proofs.UnrolledLemmas.{within_depth, within_protocols}
use Rattle.protocol_limits.proofs.laws.unrolled_paths_are_short.Goals as goal

pub returns : goal.returns
returns c = record {
  by_depth = within_depth c.acyclic_graphs_have_orders.ensures c.depths_are_longest.ensures;
  by_protocols = within_protocols c.acyclic_graphs_have_orders.ensures c.paths_are_short.ensures;
}
