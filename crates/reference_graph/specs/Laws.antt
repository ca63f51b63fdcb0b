-- The laws on orders, cycles and depths.
use Rattle.std.specs.Prelude.{◌≡◌, ℕ, suc, ◌+◌, ◌<◌, ◌≤◌, List, length, slice_index_or, All}
use Rattle.std.specs.Prelude.{Contains}
use Rattle.std.specs.List.{sum_by}
use Rattle.reference_graph.specs.declared.edge.Edge.{Edge}
use Rattle.reference_graph.specs.declared.walk_result.WalkResult.{WalkResult}
use Rattle.reference_graph.specs.Graph.{AreNodes, successors}
use Rattle.reference_graph.specs.Path.{IsPath, IsReached}
use Rattle.reference_graph.specs.Cycle.{IsAcyclic, IsCycle, IsFirstCycle}
use Rattle.reference_graph.specs.Order.{IsOrder, IsTopological}
use Rattle.reference_graph.specs.WalkResult.{IsWalkResult}
use Rattle.reference_graph.specs.PathCounts.{IsLongestPath, depth_within, weight_below}

-- where there is an order, no path from the start is a cycle
abbrev pub OrdersHaveNoCycle : Type 0
OrdersHaveNoCycle = (g : List (List ℕ)) (start : ℕ) (order : List ℕ) (path : List Edge) →
    IsOrder g start order → IsPath g start path → ¬ IsCycle start path

-- in each graph a walk from each node has a result
abbrev pub WalksHaveResults : Type 0
WalksHaveResults = (g : List (List ℕ)) (start : ℕ) → All (AreNodes g) g → start < length g →
    (result : WalkResult) × IsWalkResult g start result

-- where no path from the start is a cycle, there is an order
abbrev pub AcyclicGraphsHaveOrders : Type 0
AcyclicGraphsHaveOrders = (g : List (List ℕ)) (start : ℕ) → All (AreNodes g) g → start < length g →
    IsAcyclic g start → (order : List ℕ) × IsOrder g start order

-- the first cycle ends at one node
abbrev pub CyclesAreOne : Type 0
CyclesAreOne = (g : List (List ℕ)) (start a b : ℕ) → IsFirstCycle g start a →
    IsFirstCycle g start b → a ≡ b

-- where there is an order, each path has fewer edges than there are nodes
abbrev pub PathsAreShort : Type 0
PathsAreShort = (g : List (List ℕ)) (start : ℕ) (order : List ℕ) (path : List Edge) →
    IsOrder g start order → IsPath g start path → length path < length g

-- such an order has no more nodes than the graph
abbrev pub OrdersAreShort : Type 0
OrdersAreShort = (g : List (List ℕ)) (order : List ℕ) → IsTopological g order →
    length order ≤ length g

-- an order has all nodes that are reached
abbrev pub OrdersHaveTheReached : Type 0
OrdersHaveTheReached = (g : List (List ℕ)) (start node : ℕ) (order : List ℕ) →
    IsOrder g start order → IsReached g start node → Contains order node

-- the weight of a node is its own, and one step less far those of the nodes that it refers to
pub record WeightsAddUp : Type 0 where
  pub at_node : (g : List (List ℕ)) (weights : List ℕ) (a : ℕ) →
      weight_below 0 g weights a ≡ slice_index_or weights a 0
  pub below : (g : List (List ℕ)) (weights : List ℕ) (n a : ℕ) →
      weight_below (suc n) g weights a ≡ slice_index_or weights a 0
      + sum_by (weight_below n g weights) (successors g a)

-- over an order, the depth of a node is the length of the longest path from it
abbrev pub DepthsAreLongest : Type 0
DepthsAreLongest = (g : List (List ℕ)) (order : List ℕ) (a : ℕ) → IsTopological g order →
    Contains order a → IsLongestPath g a (depth_within (length g) g a)
