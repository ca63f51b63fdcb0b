-- The lists of the clauses that watch a literal.
use Rattle.std.specs.Prelude.{◌≡◌, ◌≢◌, ℕ, ◌+◌, ◌*◌, ◌<◌, ◌≤◌, ◌⊎◌, false, List, [], ◌∷◌}
use Rattle.std.specs.Prelude.{length, Contains, slice_index_or}
use Rattle.clause_core.specs.declared.literal.Lit.{Lit}
use Rattle.clause_core.specs.Literal.{rank}
use Rattle.sat_trail.specs.declared.watch.Watch.{Watch}
use Rattle.sat_trail.specs.declared.watch.Cell.{Cell}

-- a cell that watches nothing
abbrev pub blank : Cell
blank =
    let none : Watch = record { lit = record { var = 0; positive = false }; link = 0 } in
    record { one = none; other = none }

-- the cell of a number
abbrev pub cell_of : List Cell → ℕ → Cell
cell_of cells number = slice_index_or cells number blank

-- the cell, with either of its watches first
abbrev pub IsTurn : Cell → Cell → Type 0
IsTurn cell turn = (turn ≡ cell) ⊎ (turn ≡ record { one = cell.other; other = cell.one })

-- a watch of the literal, after which the clause of the number comes
abbrev pub watch : Lit → ℕ → Watch
watch l next = record { lit = l; link = next }

-- the cell watches the literal, and the next clause that does has the number
pub data HasLink (cell : Cell) (l : Lit) (next : ℕ) : Type 0 where
  by_one : cell.one ≡ watch l next → HasLink cell l next
  by_other : cell.other ≡ watch l next → HasLink cell l next

-- the cell watches the literal
abbrev pub Watches : Cell → Lit → Type 0
Watches cell l = (cell.one.lit ≡ l) ⊎ (cell.other.lit ≡ l)

-- the watched literals differ
abbrev pub WatchesApart : Cell → Type 0
WatchesApart cell = cell.one.lit ≢ cell.other.lit

-- the cell has this watch in place of its watch of the literal
pub data IsPut (cell : Cell) (l : Lit) (w : Watch) (new : Cell) : Type 0 where
  at_one : cell.one.lit ≡ l → new ≡ record { one = w; other = cell.other } → IsPut cell l w new
  at_other : cell.other.lit ≡ l → new ≡ record { one = cell.one; other = w } → IsPut cell l w new

-- the first number of a literal's list, or 0
abbrev pub head_of : List ℕ → Lit → ℕ
head_of heads l = slice_index_or heads (rank l) 0

-- the cell of a clause that comes first in the lists of these literals
abbrev pub cell : List ℕ → Lit → Lit → Cell
cell heads one other =
    record { one = watch one (head_of heads one); other = watch other (head_of heads other) }

-- the clauses are linked in this order, from the first number on
abbrev pub IsChain : List Cell → Lit → ℕ → List ℕ → Type 0
IsChain cells l first [] = first ≡ 0
IsChain cells l first (n ∷ rest) = (first ≡ n) × (0 < n) × (n < length cells)
    × ((next : ℕ) × HasLink (cell_of cells n) l next × IsChain cells l next rest)

-- the clauses, the last one first, are linked from the first number up to another
abbrev pub IsBefore : List Cell → Lit → ℕ → List ℕ → ℕ → Type 0
IsBefore cells l first [] number = first ≡ number
IsBefore cells l first (n ∷ earlier) number = (0 < n) × (n < length cells)
    × HasLink (cell_of cells n) l number × IsBefore cells l first earlier n

-- no number is there twice
abbrev pub IsDistinct : List ℕ → Type 0
IsDistinct [] = Unit {0}
IsDistinct (n ∷ rest) = (¬ Contains rest n) × IsDistinct rest

-- the clauses that were passed, the last one first, and those that come
abbrev pub joined : List ℕ → List ℕ → List ℕ
joined [] rest = rest
joined (n ∷ passed) rest = joined passed (n ∷ rest)

-- the last clause that was passed, or 0
abbrev pub last_of : List ℕ → ℕ
last_of [] = 0
last_of (n ∷ passed) = n

-- exactly the clauses that watch the literal are in its list, each once
pub record IsListed (cells : List Cell) (heads : List ℕ) (l : Lit) : Type 0 where
  pub list : List ℕ
  pub chain : IsChain cells l (head_of heads l) list
  pub distinct : IsDistinct list
  pub covers : (n : ℕ) → Watches (cell_of cells n) l → Contains list n
  pub apart : (n : ℕ) → Watches (cell_of cells n) l → WatchesApart (cell_of cells n)

-- the watched literals are of the variables up to `vars`, or of variable 0, which stands for none
pub record IsWithin (vars : ℕ) (cell : Cell) : Type 0 where
  pub one : cell.one.lit.var ≤ vars
  pub other : cell.other.lit.var ≤ vars

-- each literal has its list, and cells watch literals of the variables
pub record AreLinked (vars : ℕ) (cells : List Cell) (heads : List ℕ) : Type 0 where
  pub many : length heads ≡ 2 * vars + 2
  pub some : 0 < length cells
  pub listed : (l : Lit) → 0 < l.var → l.var ≤ vars → IsListed cells heads l
  pub within : (n : ℕ) → IsWithin vars (cell_of cells n)

-- the cell watches the same literals
pub record KeepsLits (cell new : Cell) : Type 0 where
  pub one : new.one.lit ≡ cell.one.lit
  pub other : new.other.lit ≡ cell.other.lit
