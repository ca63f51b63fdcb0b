-- How many turns are remaining after a turn.
use Rattle.std.proofs.Common.{◌≡◌, ℕ, zero, suc, ◌+◌, ◌-◌, ◌<◌, ◌≤◌, List, [], ◌∷◌, ◌++◌, Some, length, set, slice_get, refl, arith}
use Rattle.reference_graph.specs.declared.marks.Mark.{Mark}
use Rattle.reference_graph.specs.declared.marks.Mark.TheVariants.{New, OnPath, Done}
use Rattle.reference_graph.specs.declared.edge.Edge.{Edge}
use Rattle.reference_graph.specs.Graph.{successors}
use Rattle.reference_graph.specs.Path.{last_node}
use Rattle.reference_graph.specs.inner.Search.{cost, unvisited, pending}

-- the first of a list whose first item is new
first_new : (m : Mark) (references : List ℕ) → Some m ≡ Some New → cost m references ≡ length references + 2
first_new New references is_new = refl
first_new OnPath references is_new = cc
first_new Done references is_new = cc

-- a node that is met takes its turns from those of the nodes that were not met
pub unvisited-visited : (g : List (List ℕ)) (marks : List Mark) (b : ℕ) → b < length g → slice_get marks b ≡ Some New → unvisited g (set marks b OnPath) + length (successors g b) + 2 ≡ unvisited g marks
unvisited-visited [] marks b within is_new = absurd (omega arith)
unvisited-visited (references ∷ g) [] b within is_new = cc
unvisited-visited (references ∷ g) (m ∷ marks) zero within is_new = omega (arith, first_new m references is_new)
unvisited-visited (references ∷ g) (m ∷ marks) (suc b) within is_new = omega (arith, unvisited-visited g marks b (omega arith) is_new)

-- a node that is done takes no turns any more
pub unvisited-done : (g : List (List ℕ)) (marks : List Mark) (b : ℕ) → unvisited g (set marks b Done) ≤ unvisited g marks
unvisited-done [] marks b = omega arith
unvisited-done (references ∷ g) [] b = omega arith
unvisited-done (references ∷ g) (m ∷ marks) zero = omega arith
unvisited-done (references ∷ g) (m ∷ marks) (suc b) = omega (arith, unvisited-done g marks b)

-- one node more on the path has its own turns
pub pending-push : (g : List (List ℕ)) (a : ℕ) (path : List Edge) (s : Edge) (next : ℕ) → pending g a (path ++ s ∷ []) next ≡ pending g a path s.index + (length (successors g s.node) - next + 1)
pending-push g a [] s next = refl
pending-push g a (t ∷ path) s next = omega (arith, pending-push g t.node path s next)

-- a reference that was looked at is a turn less
pub pending-next : (g : List (List ℕ)) (a : ℕ) (path : List Edge) (next : ℕ) → next < length (successors g (last_node a path)) → pending g a path (next + 1) + 1 ≡ pending g a path next
pending-next g a [] next within = omega arith
pending-next g a (s ∷ path) next within = omega (arith, pending-next g s.node path next within)
