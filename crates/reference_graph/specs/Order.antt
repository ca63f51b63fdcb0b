-- Orders in which each node comes after all that it refers to.
use Rattle.std.specs.Prelude.{◌≡◌, ◌≢◌, ℕ, List, [], ◌∷◌, ◌++◌, Some, All, Contains, take}
use Rattle.std.specs.Prelude.{slice_get}
use Rattle.std.specs.List.{AllPairs}
use Rattle.reference_graph.specs.Graph.{successors, AreNodes}
use Rattle.reference_graph.specs.Path.{IsReached}

-- each node in it is there once, after all that it refers to
pub record IsTopological (g : List (List ℕ)) (order : List ℕ) : Type 0 where
  pub nodes : AreNodes g order
  pub once : AllPairs ◌≢◌ order
  pub after : (k b : ℕ) → slice_get order k ≡ Some b →
      All (Contains (take k order)) (successors g b)

-- such an order of what is reached from the start, which is last
pub record IsOrder (g : List (List ℕ)) (start : ℕ) (order : List ℕ) : Type 0 where
  pub topological : IsTopological g order
  pub before : List ℕ
  pub last : order ≡ before ++ start ∷ []
  pub reached : All (IsReached g start) order
