-- What a search keeps, and how many steps it may still take.
use Rattle.std.specs.Prelude.{◌≡◌, ◌≢◌, ℕ, ◌+◌, ◌-◌, ◌<◌, List, [], ◌∷◌, length, All, Contains}
use Rattle.std.specs.Prelude.{take, slice_index_or}
use Rattle.std.specs.List.{AllPairs}
use Rattle.reference_graph.specs.declared.marks.Mark.{Mark}
use Rattle.reference_graph.specs.declared.marks.Mark.TheVariants.{New, OnPath, Done}
use Rattle.reference_graph.specs.declared.search.Search.{Search}
use Rattle.reference_graph.specs.declared.search.Progress.{Progress}
use Rattle.reference_graph.specs.declared.search.Progress.TheVariants.{Continues, Ends, FindsCycle}
use Rattle.reference_graph.specs.declared.edge.Edge.{Edge}
use Rattle.reference_graph.specs.Graph.{successors, AreNodes}
use Rattle.reference_graph.specs.Path.{IsPath, IsReached, last_node, nodes_on}
use Rattle.reference_graph.specs.Cycle.{IsFirstCycle}
use Rattle.reference_graph.specs.Order.{IsTopological, IsOrder}

-- the mark is right: the node is finished, on the path, or neither
abbrev pub HasMark : List ℕ → List ℕ → ℕ → Mark → Type 0
HasMark done nodes b New = (¬ Contains done b) × (¬ Contains nodes b)
HasMark done nodes b OnPath = Contains nodes b
HasMark done nodes b Done = Contains done b

-- at each edge of the path the references before it are finished
abbrev pub IsExplored : List (List ℕ) → List ℕ → ℕ → List Edge → Type 0
IsExplored g done a [] = Unit {0}
IsExplored g done a (s ∷ path) = All (Contains done) (take s.index (successors g a))
    × IsExplored g done s.node path

-- the path is simple, all that comes before it in the search is finished, and the marks are right
pub record IsSearching (g : List (List ℕ)) (s : Search) : Type 0 where
  pub fits : length s.marks ≡ length g
  pub marked : (b : ℕ) → b < length g → HasMark s.done (nodes_on s.start s.path) b
      (slice_index_or s.marks b New)
  pub topological : IsTopological g s.done
  pub reached : All (IsReached g s.start) s.done
  pub is_path : IsPath g s.start s.path
  pub nodes : AreNodes g (nodes_on s.start s.path)
  pub simple : AllPairs ◌≢◌ (nodes_on s.start s.path)
  pub unfinished : All (λ b. ¬ Contains s.done b) (nodes_on s.start s.path)
  pub explored : IsExplored g s.done s.start s.path
  pub before : All (Contains s.done) (take s.next (successors g (last_node s.start s.path)))

-- how many steps a new node may take
abbrev pub cost : Mark → List ℕ → ℕ
cost New references = length references + 2
cost OnPath references = 0
cost Done references = 0

-- how many steps all new nodes may take
abbrev pub unvisited : List (List ℕ) → List Mark → ℕ
unvisited [] marks = 0
unvisited (references ∷ g) [] = 0
unvisited (references ∷ g) (m ∷ marks) = cost m references + unvisited g marks

-- how many steps the nodes on the path may take
abbrev pub pending : List (List ℕ) → ℕ → List Edge → ℕ → ℕ
pending g a [] next = length (successors g a) - next + 1
pending g a (s ∷ path) next = length (successors g a) - s.index + 1 + pending g s.node path next

-- how many steps the search may take
abbrev pub remaining : List (List ℕ) → Search → ℕ
remaining g s = unvisited g s.marks + pending g s.start s.path s.next

-- the search goes on from the same start, and may take fewer steps
pub record GoesOn (g : List (List ℕ)) (old new : Search) : Type 0 where
  pub searching : IsSearching g new
  pub start : new.start ≡ old.start
  pub nearer : remaining g new < remaining g old

-- what a step of the search comes to
abbrev pub IsProgress : List (List ℕ) → Search → Search → Progress → Type 0
IsProgress g old new Continues = GoesOn g old new
IsProgress g old new Ends = IsOrder g old.start new.done
IsProgress g old new (FindsCycle node) = IsFirstCycle g old.start node
