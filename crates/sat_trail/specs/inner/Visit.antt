-- What a visit of one clause along the list of a false literal does.
use Rattle.std.specs.Prelude.{◌≡◌, ◌≢◌, ℕ, ◌+◌, ◌*◌, ◌<◌, ◌≤◌, Option, Some, List, ◌∷◌, length}
use Rattle.std.specs.Prelude.{Contains, slice_get}
use Rattle.clause_core.specs.declared.literal.Lit.{Lit}
use Rattle.clause_core.specs.Literal.{negated}
use Rattle.clause_core.specs.Numbering.{HasNumber, live}
use Rattle.clause_core.specs.Propagation.{OthersFalse}
use Rattle.sat_trail.specs.declared.entry.Entry.{Entry}
use Rattle.sat_trail.specs.declared.propagation.Cursor.{Cursor}
use Rattle.sat_trail.specs.declared.propagation.Visit.{Visit}
use Rattle.sat_trail.specs.declared.propagation.Visit.TheVariants.{Stays, Moves, Fails}
use Rattle.sat_trail.specs.declared.watch.Cell.{Cell}
use Rattle.sat_trail.specs.Entry.{values_of}
use Rattle.sat_trail.specs.inner.Excuse.{IsTrueBy}
use Rattle.sat_trail.specs.inner.Propagation.{CanPropagate, HasWatches}
use Rattle.sat_trail.specs.inner.Storage.{Assigned}
use Rattle.sat_trail.specs.inner.Walk.{IsWalk, Walks, AreOthersListed}
use Rattle.sat_trail.specs.inner.Watches.{cell_of, IsTurn, HasLink, KeepsLits, AreLinked}

-- the literal is the only one of the clause that may not be false
pub record IsLastLeft
    (clauses : List (Option (List Lit))) (entries : List Entry) (number : ℕ) (l : Lit)
    : Type 0 where
  pub clause : List Lit
  pub has_number : HasNumber (live clauses) number clause
  pub among : Contains clause l
  pub others : OthersFalse (values_of entries) clause l

-- the entry at the index makes the literal false
pub record IsFalseAt (entries : List Entry) (index : ℕ) (l : Lit) : Type 0 where
  pub entry : Entry
  pub there : slice_get entries index ≡ Some entry
  pub fails : negated entry.lit ≡ l

-- propagation has come to the entries from the position on
pub record HasCome
    (clauses : List (Option (List Lit))) (cells : List Cell) (heads : List ℕ) (set : Assigned)
    (level position : ℕ) : Type 0 where
  pub fits : CanPropagate clauses set level
  pub watched : HasWatches clauses cells set level position (length clauses)
  pub linked : AreLinked set.vars cells heads

-- propagation has come to the entry at the position
pub record CanPass
    (clauses : List (Option (List Lit))) (cells : List Cell) (heads : List ℕ) (set : Assigned)
    (level position : ℕ) : Type 0 where
  pub fits : CanPropagate clauses set level
  pub within : position < length set.entries
  pub watched : HasWatches clauses cells set level position (length clauses)
  pub linked : AreLinked set.vars cells heads

-- propagation has come to the entry that makes the cursor's literal false, and the walk along the
-- list of the literal to the cursor's clause
pub record CanVisit
    (clauses : List (Option (List Lit))) (cells : List Cell) (heads : List ℕ) (set : Assigned)
    (level : ℕ) (at : Cursor) : Type 0 where
  pub fits : CanPropagate clauses set level
  pub watched : HasWatches clauses cells set level at.position (length clauses)
  pub fails : IsFalseAt set.entries at.position at.lit
  pub exists : (0 < at.lit.var) × (at.lit.var ≤ set.vars)
  pub many : length heads ≡ 2 * set.vars + 2
  pub walk : Walks cells heads at.lit at.before at.number
  pub others : AreOthersListed set.vars cells heads at.lit

-- a clause that stays has its other watched literal true, and the next number is that of its link;
-- one that moves is no longer in the list
pub record IsVisit
    (cells new_cells : List Cell) (heads new_heads : List ℕ) (entries : List Entry)
    (level : ℕ) (at : Cursor) (visit : Visit) : Type 0 where
  pub stays : (next : ℕ) → visit ≡ Stays next → (new_cells ≡ cells) × (new_heads ≡ heads)
      × HasLink (cell_of cells at.number) at.lit next
      × ((turn : Cell) → IsTurn (cell_of cells at.number) turn → turn.one.lit ≡ at.lit →
      IsTrueBy entries level turn.other.lit)
  pub moves : (next : ℕ) → visit ≡ Moves next →
      ((n : ℕ) → n ≢ at.number → KeepsLits (cell_of cells n) (cell_of new_cells n))
      × ((passed rest : List ℕ) →
      IsWalk cells heads at.lit passed (at.number ∷ rest) at.before at.number →
      IsWalk new_cells new_heads at.lit passed rest at.before next)
  pub fails : visit ≡ Fails → (new_cells ≡ cells) × (new_heads ≡ heads)

-- there are as many cells and lists, and the other literals have their lists
pub record KeepsLists
    (vars : ℕ) (cells new_cells : List Cell) (heads new_heads : List ℕ) (l : Lit) : Type 0 where
  pub cells_as_many : length new_cells ≡ length cells
  pub heads_as_many : length new_heads ≡ length heads
  pub others : AreOthersListed vars new_cells new_heads l
