-- A table with a mark for each literal, and what it says of a clause.
use Rattle.std.specs.Prelude.{◌≡◌, ◌≢◌, ℕ, ◌+◌, ◌*◌, ◌↔◌, ◌⊎◌, Bool, false, IsTrue, List, [], All, length}
use Rattle.std.specs.Prelude.{Contains, slice_index_or}
use Rattle.clause_core.specs.declared.literal.Lit.{Lit}
use Rattle.clause_core.specs.Clause.{VariablesExist}
use Rattle.clause_core.specs.Literal.{rank, negated}
use Rattle.clause_core.specs.Resolvent.{Keeps}

-- a cell for each literal at its rank, over the variables from 1 to `vars`
pub record MarkCells : Type 0 where
  pub vars : ℕ
  pub cells : List Bool

-- the literal is marked
abbrev pub IsMarked : MarkCells → Lit → Type 0
IsMarked table l = IsTrue (slice_index_or table.cells (rank l) false)

-- the marked literals are exactly those of the clause
pub record Marks (table : MarkCells) (clause : List Lit) : Type 0 where
  pub exactly : (l : Lit) → IsMarked table l ↔ Contains clause l

-- nothing is marked, and the clauses are over the variables of the marks
pub record IsClear (table : MarkCells) (clauses : List (List Lit)) : Type 0 where
  pub exist : All (VariablesExist table.vars) clauses
  pub empty : Marks table []

-- the literals of the clause were marked too
pub record AddsMarks (old : MarkCells) (clause : List Lit) (new : MarkCells) : Type 0 where
  pub vars : new.vars ≡ old.vars
  pub members : (l : Lit) → IsMarked new l ↔ (IsMarked old l ⊎ Contains clause l)

-- the literal lost its mark
pub record TakesMark (old : MarkCells) (lit : Lit) (new : MarkCells) : Type 0 where
  pub vars : new.vars ≡ old.vars
  pub members : (l : Lit) → IsMarked new l ↔ (IsMarked old l × (l ≢ lit))

-- what was marked, but the pivot, is marked, and the clause without the pivot's negation
pub record ResolvesMarks
    (old : MarkCells) (pivot : Lit) (clause : List Lit) (new : MarkCells) : Type 0 where
  pub vars : new.vars ≡ old.vars
  pub members : (l : Lit) →
      IsMarked new l ↔ ((IsMarked old l × (l ≢ pivot)) ⊎ Keeps clause (negated pivot) l)

-- the list has each marked literal, and there is a cell for each literal
pub record IsMarkTable (table : MarkCells) (touched : List Lit) : Type 0 where
  pub many : length table.cells ≡ 2 * table.vars + 2
  pub listed : (l : Lit) → IsMarked table l → Contains touched l
  pub exist : VariablesExist table.vars touched
