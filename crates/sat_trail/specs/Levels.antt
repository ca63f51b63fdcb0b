-- The levels of a trail: their decisions, and what lower levels leave.
use Rattle.std.specs.Prelude.{◌≡◌, ◌≢◌, ℕ, ◌<◌, ◌≤◌, None, IsSome, List, ◌∷◌, ◌++◌, All, AllPairs}
use Rattle.clause_core.specs.Propagation.{IsPropagated}
use Rattle.sat_trail.specs.declared.entry.Entry.{Entry}
use Rattle.sat_trail.specs.Entry.{values_of, up_to}
use Rattle.sat_trail.specs.Growth.{MayBeSet}
use Rattle.sat_trail.specs.State.{State, numbering_of}

-- the first entry of the level is a decision, and the others of the level have reasons
pub record HasOneDecision (entries : List Entry) (level : ℕ) : Type 0 where
  pub before : List Entry
  pub decision : Entry
  pub after : List Entry
  pub whole : entries ≡ before ++ decision ∷ after
  pub decided : decision.reason ≡ None
  pub at_level : decision.level ≡ level
  pub first : All (λ e. e.level < level) before
  pub only : All (λ e. e.level ≡ level → IsSome e.reason) after

-- each variable is set once, and the entries come level by level up to the current one
pub record HasLevels (t : State) : Type 0 where
  pub once : AllPairs (λ d e. d.lit.var ≢ e.lit.var) t.entries
  pub rising : AllPairs (λ d e. d.level ≤ e.level) t.entries
  pub highest : All (λ e. e.level ≤ t.level) t.entries
  pub no_decision : All (λ e. e.level ≡ 0 → IsSome e.reason) t.entries
  pub decisions_rise : (before after : List Entry) (e : Entry) →
      t.entries ≡ before ++ e ∷ after → e.reason ≡ None → All (λ d. d.level < e.level) before
  pub one_decision : (level : ℕ) → 0 < level → level ≤ t.level → HasOneDecision t.entries level

-- each entry has its cause in those before it
abbrev pub HasCauses : State → Type 0
HasCauses t = (before after : List Entry) (e : Entry) →
    t.entries ≡ before ++ e ∷ after → MayBeSet (numbering_of t) before e

-- under the values of the levels up to a lower one, unit propagation has nothing to do
abbrev pub IsPropagatedBelow : State → Type 0
IsPropagatedBelow t = (level : ℕ) → level < t.level →
    IsPropagated (values_of (up_to level t.entries)) (numbering_of t)
