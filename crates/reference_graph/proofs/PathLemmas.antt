-- Paths with one step more at their end.
use Rattle.std.proofs.Common.{◌≡◌, ℕ, List, [], ◌∷◌, ◌++◌, Some, slice_get, refl, ap, arith, Contains}
use Rattle.std.proofs.lemmas.List.{map_push}
use Rattle.reference_graph.specs.declared.edge.Edge.{Edge}
use Rattle.reference_graph.specs.Graph.{successors}
use Rattle.reference_graph.specs.Path.{IsPath, last_node, nodes_on}
use Rattle.list_base.proofs.Members.{there}

-- a path ends at the node of its last step
pub last_node-push : (a : ℕ) (path : List Edge) (s : Edge) → last_node a (path ++ s ∷ []) ≡ s.node
last_node-push a [] s = refl
last_node-push a (t ∷ path) s = last_node-push t.node path s

-- a step adds its node to those on the path
pub nodes_on-push : (a : ℕ) (path : List Edge) (s : Edge) → nodes_on a (path ++ s ∷ []) ≡ nodes_on a path ++ s.node ∷ []
nodes_on-push a path s = ap (λ (nodes : List ℕ). a ∷ nodes) (map_push (λ (t : Edge). t.node) path s)

-- the end of a path is on it
pub end_on : (a : ℕ) (path : List Edge) → Contains (nodes_on a path) (last_node a path)
end_on a [] = (0, omega arith, refl)
end_on a (s ∷ path) = there a (nodes_on s.node path) (last_node s.node path) (end_on s.node path)

-- a step from the end of a path makes it longer
pub IsPath-push : (g : List (List ℕ)) (a : ℕ) (path : List Edge) (s : Edge) → IsPath g a path → slice_get (successors g (last_node a path)) s.index ≡ Some s.node → IsPath g a (path ++ s ∷ [])
IsPath-push g a [] s is_path at = (at, tt)
IsPath-push g a (t ∷ path) s is_path at = (is_path.0, IsPath-push g t.node path s is_path.1 at)

-- a path without its last step is a path
pub IsPath-prefix : (g : List (List ℕ)) (a : ℕ) (path : List Edge) (s : Edge) → IsPath g a (path ++ s ∷ []) → IsPath g a path
IsPath-prefix g a [] s is_path = tt
IsPath-prefix g a (t ∷ path) s is_path = (is_path.0, IsPath-prefix g t.node path s is_path.1)
