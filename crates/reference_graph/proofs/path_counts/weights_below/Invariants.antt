-- What the loop of `weights_below` keeps.
use Rattle.std.proofs.Common.{◌≡◌, length}
use Rattle.reference_graph.specs.PathCounts.{weight_below, saturated}
use Rattle.list_base.proofs.Tables.{AreFilled}
use Rattle.reference_graph.proofs.path_counts.weights_below.Given as goal

-- the nodes of the order that were passed have their sums
abbrev pub invariant-loop-node : goal.invariant-loop-node
invariant-loop-node l = record {
  fits : length l.sums.items ≡ length l.graph;
  found : AreFilled 0 (λ a. saturated (weight_below (length l.graph) l.graph l.weights a)) l.order l.sums.items l.node-index;
}
