-- Which literals a new clause is to watch.
use Rattle.std.specs.Prelude.{◌≡◌, ◌≢◌, ℕ, ◌<◌, ◌≤◌, ◌⊎◌, Option, Some, None, List, [], length, take}
use Rattle.std.specs.Prelude.{Contains, map}
use Rattle.clause_core.specs.declared.literal.Lit.{Lit}
use Rattle.clause_core.specs.Propagation.{MakesFalse, OthersFalse}
use Rattle.sat_trail.specs.declared.entry.Entry.{Entry}
use Rattle.sat_trail.specs.declared.watch.Cell.{Cell}
use Rattle.sat_trail.specs.Entry.{values_of}
use Rattle.sat_trail.specs.Trail.{IsOpen}
use Rattle.clause_core.specs.Numbering.{live}
use Rattle.sat_trail.specs.inner.Excuse.{AreWatched}
use Rattle.sat_trail.specs.inner.Watches.{cell_of, Watches, AreLinked}

-- the literal is another one, and it is unset or true since the level
pub record IsFreeBeside (entries : List Entry) (level : ℕ) (l other : Lit) : Type 0 where
  pub differs : l ≢ other
  pub is_open : IsOpen entries level l
  pub unfalse : ¬ MakesFalse (values_of entries) l

-- if the literal is another one that is unset or was set at the level, it is false
abbrev pub IsNotFreeBeside : List Entry → ℕ → Lit → Lit → Type 0
IsNotFreeBeside entries level l other =
    l ≢ other → IsOpen entries level l → MakesFalse (values_of entries) l

-- no other literal of the clause is free
abbrev pub AreNotFree : List Entry → ℕ → List Lit → Lit → Type 0
AreNotFree entries level clause other =
    (m : Lit) → Contains clause m → IsNotFreeBeside entries level m other

-- if the literal beside another is false, it was set at the level, and no literal but the other
-- one is left
pub record IsLeft
    (entries : List Entry) (level : ℕ) (clause : List Lit) (l other : Lit) : Type 0 where
  pub among : Contains clause l
  pub differs : l ≢ other
  pub last : MakesFalse (values_of entries) l →
      IsOpen entries level l × OthersFalse (values_of entries) clause other

-- the literal may be watched beside another: it is unset or was set at the level, unless each such
-- literal but the other one is false; and if it is false, no literal but the other one is left
pub record MayWatch
    (entries : List Entry) (level : ℕ) (clause : List Lit) (l other : Lit) : Type 0 where
  pub left : IsLeft entries level clause l other
  pub is_open : IsOpen entries level l ⊎ AreNotFree entries level clause other

-- the other literals of the clause are false, and were not set at the level
abbrev pub AreClosed : List Entry → ℕ → List Lit → Lit → Type 0
AreClosed entries level clause kept = (m : Lit) → Contains clause m → m ≢ kept →
    MakesFalse (values_of entries) m × (¬ IsOpen entries level m)

-- the literals may be watched together
pub record AreChosen
    (entries : List Entry) (level : ℕ) (clause : List Lit) (one other : Lit) : Type 0 where
  pub first : MayWatch entries level clause one other
  pub second : MayWatch entries level clause other one

-- the cell watches no literal
abbrev pub IsUnwatched : Cell → Type 0
IsUnwatched cell = (l : Lit) → 0 < l.var → ¬ Watches cell l

-- the number has a cell, which watches no literal
pub record HasBlankCell (cells : List Cell) (number : ℕ) : Type 0 where
  pub from_one : 0 < number
  pub within : number < length cells
  pub unwatched : IsUnwatched (cell_of cells number)

-- a cell that watches nothing may have been added at the end
pub record ReservesCells (cells new_cells : List Cell) : Type 0 where
  pub more : length cells ≤ length new_cells
  pub same : (n : ℕ) → cell_of new_cells n ≡ cell_of cells n

-- two literals exist and differ
pub record ArePair (vars : ℕ) (one other : Lit) : Type 0 where
  pub differ : one ≢ other
  pub one_exists : (0 < one.var) × (one.var ≤ vars)
  pub other_exists : (0 < other.var) × (other.var ≤ vars)

-- the clause of the number watches these literals, if there are any
pub record IsAttachedTo
    (cells new_cells : List Cell) (number : ℕ) (watched : Option (Lit × Lit)) : Type 0 where
  pub as_many : length new_cells ≡ length cells
  pub others : (n : ℕ) → n ≢ number → cell_of new_cells n ≡ cell_of cells n
  pub some : (one other : Lit) → watched ≡ Some (one, other) →
      ((cell_of new_cells number).one.lit ≡ one) × ((cell_of new_cells number).other.lit ≡ other)
  pub none : watched ≡ None → cell_of new_cells number ≡ cell_of cells number

-- the first clauses are watched, before any entry is there
pub record IsAttached
    (vars count : ℕ) (clauses : List (List Lit)) (cells : List Cell) (heads : List ℕ)
    : Type 0 where
  pub linked : AreLinked vars cells heads
  pub watched : let first = map Some (take count clauses) in
      AreWatched (live first) (length first) cells []
      (record { level = 0; head = 0; examined = 0 })
  pub room : length clauses < length cells
