-- What is known of a sorted document.
use Rattle.std.specs.Prelude.{◌≡◌, ℕ, ◌<◌, List, Some, All, length, slice_get}
use Rattle.bspl_parser.specs.declared.document.Declaration.{Declaration}
use Rattle.reference_graph.specs.PathCounts.{saturated}
use Rattle.reference_graph.specs.Order.{IsOrder}
use Rattle.protocol_limits.specs.Graph.{graph_of}

-- the protocols of a document, their references, what is reached, in order, and from where
pub record SortedProtocols : Type 0 where
  pub protocols : List Declaration
  pub graph : List (List ℕ)
  pub order : List ℕ
  pub top : ℕ

-- the graph is that of the document, and the order one of what is reached from the top
pub record IsSorted (protocols : List Declaration) (graph : List (List ℕ)) (order : List ℕ)
    (top : ℕ) : Type 0 where
  pub declared : top < length protocols
  pub is_graph : graph ≡ graph_of protocols
  pub is_order : IsOrder (graph_of protocols) top order

-- each protocol of the order has its count at its number
abbrev pub AreCounts : (ℕ → ℕ) → List ℕ → List ℕ → Type 0
AreCounts count order counts = All (λ a. slice_get counts a ≡ Some (saturated (count a))) order
