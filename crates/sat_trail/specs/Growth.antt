-- Why an entry may be set after others: it is a decision, or a clause forces it.
use Rattle.std.specs.Prelude.{◌≡◌, ℕ, ◌+◌, ◌⊎◌, Some, None, List}
use Rattle.clause_core.specs.declared.literal.Lit.{Lit}
use Rattle.clause_core.specs.Numbering.{Numbering, HasNumber}
use Rattle.clause_core.specs.Propagation.{LeavesOnly, IsPropagated}
use Rattle.sat_trail.specs.declared.entry.Entry.{Entry}
use Rattle.sat_trail.specs.Entry.{values_of, last_level}

-- a decision has no reason, raises the level, and comes when unit propagation has nothing to do
pub record IsDecision (numbering : Numbering) (before : List Entry) (e : Entry) : Type 0 where
  pub no_reason : e.reason ≡ None
  pub raises : e.level ≡ last_level before + 1
  pub propagated : IsPropagated (values_of before) numbering

-- the clause of the reason had only this literal left, and the level stays
pub record IsForced (numbering : Numbering) (before : List Entry) (e : Entry) : Type 0 where
  pub number : ℕ
  pub clause : List Lit
  pub reason : e.reason ≡ Some number
  pub has_number : HasNumber numbering number clause
  pub leaves : LeavesOnly (values_of before) clause e.lit
  pub stays : e.level ≡ last_level before

-- the entry sets a variable that had no value, as a decision or by a clause
pub record MayBeSet (numbering : Numbering) (before : List Entry) (e : Entry) : Type 0 where
  pub no_value : values_of before e.lit.var ≡ None
  pub cause : IsDecision numbering before e ⊎ IsForced numbering before e
