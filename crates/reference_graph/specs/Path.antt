-- Paths along references.
use Rattle.std.specs.Prelude.{◌≡◌, ℕ, List, [], ◌∷◌, Some, map, slice_get}
use Rattle.reference_graph.specs.declared.edge.Edge.{Edge}
use Rattle.reference_graph.specs.Graph.{successors}

-- the edges lead on from the node: each is among the references of the node before it, at its index
abbrev pub IsPath : List (List ℕ) → ℕ → List Edge → Type 0
IsPath g a [] = Unit {0}
IsPath g a (s ∷ path) = (slice_get (successors g a) s.index ≡ Some s.node) × IsPath g s.node path

-- the node where a path ends
abbrev pub last_node : ℕ → List Edge → ℕ
last_node a [] = a
last_node a (s ∷ path) = last_node s.node path

-- the nodes on a path, its start too
abbrev pub nodes_on : ℕ → List Edge → List ℕ
nodes_on a path = a ∷ map (λ s. s.node) path

-- a path leads from the one node to the other
pub record IsReached (g : List (List ℕ)) (a b : ℕ) : Type 0 where
  pub path : List Edge
  pub is_path : IsPath g a path
  pub ends : last_node a path ≡ b
