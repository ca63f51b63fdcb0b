-- How a trail grows, entry by entry. What contracts say of every trail follows from it.
use Rattle.std.specs.Prelude.{◌≡◌, IsTrue, List, [], ◌∷◌, ◌++◌}
use Rattle.clause_core.specs.Numbering.{Numbering}
use Rattle.clause_core.specs.Propagation.{IsPropagated}
use Rattle.sat_trail.specs.declared.entry.Entry.{Entry}
use Rattle.sat_trail.specs.Entry.{values_of, last_level}
use Rattle.sat_trail.specs.Growth.{MayBeSet}
use Rattle.sat_trail.specs.State.{State, numbering_of}
use Rattle.sat_trail.specs.Trail.{EntriesExist, ClausesExist}

-- each of the entries may be set after those before it
abbrev pub Grows : Numbering → List Entry → List Entry → Type 0
Grows numbering before [] = Unit {0}
Grows numbering before (e ∷ rest) =
    MayBeSet numbering before e × Grows numbering (before ++ e ∷ []) rest

-- the entries grew one by one up to the level, over variables that exist
pub record IsGrown (t : State) : Type 0 where
  pub grown : Grows (numbering_of t) [] t.entries
  pub level : last_level t.entries ≡ t.level
  pub exist : EntriesExist t
  pub clauses_exist : ClausesExist t
  pub ready_propagated : IsTrue t.ready → IsPropagated (values_of t.entries) (numbering_of t)
