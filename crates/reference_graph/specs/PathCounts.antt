-- How many paths lead on from a node, and how far.
use Rattle.std.specs.Prelude.{◌≡◌, ℕ, zero, suc, ◌≤◌, min, max, List, [], ◌∷◌, map, length, sum}
use Rattle.std.specs.Prelude.{slice_index_or}
use Rattle.std.specs.List.{flat_map}
use Rattle.reference_graph.specs.declared.edge.Edge.{Edge}
use Rattle.reference_graph.specs.Graph.{successors}
use Rattle.reference_graph.specs.Path.{IsPath}

-- the paths from a node of at most n steps, each as the nodes that it comes to
unfoldable pub node_paths : List (List ℕ) → ℕ → ℕ → List (List ℕ)
node_paths g zero a = [] ∷ []
node_paths g (suc n) a = [] ∷ flat_map (λ b. map (λ path. b ∷ path) (node_paths g n b))
    (successors g a)

-- the node that such a path comes to last
abbrev pub end_of_nodes : ℕ → List ℕ → ℕ
end_of_nodes a [] = a
end_of_nodes a (b ∷ path) = end_of_nodes b path

-- how many paths of at most n steps there are, each weighed by the node where it ends
unfoldable pub weight_below : ℕ → List (List ℕ) → List ℕ → ℕ → ℕ
weight_below n g weights a = sum (map (λ path. slice_index_or weights (end_of_nodes a path) 0)
    (node_paths g n a))

-- the greatest of the numbers, or 0
abbrev pub greatest : List ℕ → ℕ
greatest [] = 0
greatest (x ∷ xs) = max x (greatest xs)

-- how many steps the longest path has, of those of at most n steps
unfoldable pub depth_within : ℕ → List (List ℕ) → ℕ → ℕ
depth_within n g a = greatest (map length (node_paths g n a))

-- the longest path from the node has so many steps
pub record IsLongestPath (g : List (List ℕ)) (a n : ℕ) : Type 0 where
  pub path : List Edge
  pub is_path : IsPath g a path
  pub steps : length path ≡ n
  pub longest : (other : List Edge) → IsPath g a other → length other ≤ n

-- the number, or the last one of 64 bits
abbrev pub saturated : ℕ → ℕ
saturated n = min n 18446744073709551615
