-- Cycles along references, and the first of them.
use Rattle.std.specs.Prelude.{◌≡◌, ℕ, ◌<◌, ◌⊎◌, List, [], ◌∷◌, ◌++◌, Contains}
use Rattle.reference_graph.specs.declared.edge.Edge.{Edge}
use Rattle.reference_graph.specs.Path.{IsPath, last_node, nodes_on}

-- the last edge of the path leads to a node that is on the path before
pub record IsCycle (a : ℕ) (path : List Edge) : Type 0 where
  pub before : List Edge
  pub last : Edge
  pub whole : path ≡ before ++ last ∷ []
  pub returns : Contains (nodes_on a before) last.node

-- no path from the start is a cycle
abbrev pub IsAcyclic : List (List ℕ) → ℕ → Type 0
IsAcyclic g start = (path : List Edge) → IsPath g start path → ¬ IsCycle start path

-- a search that follows references in order, and depth first, comes to the one path before the
-- other
abbrev pub IsBefore : List Edge → List Edge → Type 0
IsBefore path [] = ⊥
IsBefore [] (t ∷ other) = Unit {0}
IsBefore (s ∷ path) (t ∷ other) = (s.index < t.index) ⊎ ((s.index ≡ t.index) × IsBefore path other)

-- the first path from the start that is a cycle ends at this node
pub record IsFirstCycle (g : List (List ℕ)) (start node : ℕ) : Type 0 where
  pub path : List Edge
  pub is_path : IsPath g start path
  pub cycle : IsCycle start path
  pub ends : last_node start path ≡ node
  pub first : (other : List Edge) → IsPath g start other → IsCycle start other →
      ¬ IsBefore other path
