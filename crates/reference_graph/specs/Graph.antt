-- A graph of references: for each node, by its number, the nodes that it refers to, in order.
use Rattle.std.specs.Prelude.{ℕ, ◌<◌, ◌^◌, List, [], length, All, slice_index_or}

-- the nodes that a node refers to, in order
abbrev pub successors : List (List ℕ) → ℕ → List ℕ
successors g a = slice_index_or g a []

-- each number is that of a node
abbrev pub AreNodes : List (List ℕ) → List ℕ → Type 0
AreNodes g numbers = All (λ b. b < length g) numbers

-- there are fewer than 2^32 nodes, and each refers to nodes
pub record IsGraph (g : List (List ℕ)) : Type 0 where
  pub few : length g < 2 ^ 32
  pub referred : All (AreNodes g) g
