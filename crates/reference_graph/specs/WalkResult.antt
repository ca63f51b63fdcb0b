-- What a walk finds.
use Rattle.std.specs.Prelude.{ℕ, List}
use Rattle.reference_graph.specs.declared.walk_result.WalkResult.{WalkResult}
use Rattle.reference_graph.specs.declared.walk_result.WalkResult.TheVariants.{Order, Cycle}
use Rattle.reference_graph.specs.Cycle.{IsFirstCycle}
use Rattle.reference_graph.specs.Order.{IsOrder}

-- an order of what is reached, or the node where the first cycle ends
abbrev pub IsWalkResult : List (List ℕ) → ℕ → WalkResult → Type 0
IsWalkResult g start (Order order) = IsOrder g start order
IsWalkResult g start (Cycle node) = IsFirstCycle g start node
