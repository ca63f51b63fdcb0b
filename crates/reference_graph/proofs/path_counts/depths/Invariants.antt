-- What the loop of `depths` keeps.
use Rattle.std.proofs.Common.{◌≡◌, ◌≤◌, length, All}
use Rattle.reference_graph.specs.PathCounts.{depth_within}
use Rattle.list_base.proofs.Tables.{AreFilled}
use Rattle.reference_graph.proofs.path_counts.depths.Given as goal

-- the nodes of the order that were passed have their depths, which are no more than those nodes
abbrev pub invariant-loop-node : goal.invariant-loop-node
invariant-loop-node l = record {
  fits : length l.depths.items ≡ length l.graph;
  small : All (λ depth. depth ≤ l.node-index) l.depths.items;
  found : AreFilled 0 (depth_within (length l.graph) l.graph) l.order l.depths.items l.node-index;
}
