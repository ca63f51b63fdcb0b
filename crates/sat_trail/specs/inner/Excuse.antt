-- Why a watched literal may be false, and what each clause watches.
use Rattle.std.specs.Prelude.{◌≡◌, ◌≢◌, ℕ, ◌<◌, ◌≤◌, Some, List, length, Contains, slice_get}
use Rattle.clause_core.specs.declared.literal.Lit.{Lit}
use Rattle.clause_core.specs.Literal.{negated}
use Rattle.clause_core.specs.Numbering.{Numbering, HasNumber}
use Rattle.clause_core.specs.Propagation.{OthersFalse}
use Rattle.sat_trail.specs.declared.entry.Entry.{Entry}
use Rattle.sat_trail.specs.declared.watch.Cell.{Cell}
use Rattle.sat_trail.specs.Entry.{values_of}
use Rattle.sat_trail.specs.inner.Watches.{cell_of, IsTurn, Watches}

-- how far propagation has come: the current level, and how many entries and clauses it has passed
pub record Progress : Type 0 where
  pub level : ℕ
  pub head : ℕ
  pub examined : ℕ

-- the literal is true, at a level that is not higher
pub record IsTrueBy (entries : List Entry) (level : ℕ) (l : Lit) : Type 0 where
  pub entry : Entry
  pub among : Contains entries entry
  pub sets : entry.lit ≡ l
  pub low : entry.level ≤ level

-- why the entry at the index may make a watched literal of the clause false: the other watched
-- literal is true, or propagation has not passed the entry, or has not examined the clause, which
-- has no other literal left then
pub data IsExcused
    (entries : List Entry) (p : Progress) (number : ℕ) (clause : List Lit) (other : Lit)
    (index : ℕ) (e : Entry) : Type 0 where
  is_satisfied : IsTrueBy entries e.level other → IsExcused entries p number clause other index e
  is_waiting : p.head ≤ index → IsExcused entries p number clause other index e
  is_new : p.examined < number → e.level ≡ p.level → OthersFalse (values_of entries) clause other →
      IsExcused entries p number clause other index e

-- the clause holds the watched literal, which may be false only with an excuse
pub record IsWatched
    (entries : List Entry) (p : Progress) (number : ℕ) (clause : List Lit) (l other : Lit)
    : Type 0 where
  pub among : Contains clause l
  pub differs : l ≢ other
  pub excused : (index : ℕ) (e : Entry) → slice_get entries index ≡ Some e → negated e.lit ≡ l →
      IsExcused entries p number clause other index e

-- a clause of two or more literals watches two of them
abbrev pub WatchesTwo : List Entry → Progress → ℕ → List Lit → Cell → Type 0
WatchesTwo entries p number clause cell = (turn : Cell) → IsTurn cell turn →
    IsWatched entries p number clause turn.one.lit turn.other.lit

-- a clause of fewer literals watches none: its literal is true at level 0 once it is examined
pub record WatchesNone
    (entries : List Entry) (p : Progress) (number : ℕ) (clause : List Lit) (cell : Cell)
    : Type 0 where
  pub none : (l : Lit) → 0 < l.var → ¬ Watches cell l
  pub old : number ≤ p.examined → (l : Lit) × Contains clause l × IsTrueBy entries 0 l
  pub new : p.examined < number → p.level ≡ 0

-- entries that propagation has not passed are of the current level; clauses watch two literals, or
-- none if they have fewer; what watches a literal is a clause
pub record AreWatched
    (numbering : Numbering) (last : ℕ) (cells : List Cell) (entries : List Entry) (p : Progress)
    : Type 0 where
  pub head_within : p.head ≤ length entries
  pub examined_within : p.examined ≤ last
  pub room : last < length cells
  pub waiting : (index : ℕ) (e : Entry) → slice_get entries index ≡ Some e → p.head ≤ index →
      e.level ≡ p.level
  pub long : (n : ℕ) (c : List Lit) → HasNumber numbering n c → 2 ≤ length c →
      WatchesTwo entries p n c (cell_of cells n)
  pub short : (n : ℕ) (c : List Lit) → HasNumber numbering n c → length c < 2 →
      WatchesNone entries p n c (cell_of cells n)
  pub only : (n : ℕ) (l : Lit) → 0 < l.var → Watches (cell_of cells n) l → (0 < n) × (n ≤ last)
