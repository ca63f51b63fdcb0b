-- What the analysis of a falsified clause finds.
use Rattle.std.specs.Prelude.{◌≡◌, ◌≢◌, ℕ, ◌<◌, ◌≤◌, ◌⊎◌, false, Some, IsSome, List, [], take}
use Rattle.std.specs.Prelude.{length, All, Contains, slice_get}
use Rattle.clause_core.specs.declared.literal.Lit.{Lit}
use Rattle.clause_core.specs.Literal.{negated}
use Rattle.clause_core.specs.Propagation.{Falsifies}
use Rattle.refutation_log.specs.declared.refutation.Chain.{Chain}
use Rattle.refutation_log.specs.Resolution.{Derives}
use Rattle.sat_trail.specs.declared.entry.Entry.{Entry}
use Rattle.sat_trail.specs.Entry.{values_of, level_of, up_to}
use Rattle.sat_trail.specs.State.{State, numbering_of}
use Rattle.sat_trail.specs.Trail.{IsTrail, Adds}

-- the literal was set at the current level
abbrev pub IsCurrent : State → Lit → Type 0
IsCurrent t l = level_of t.entries l.var ≡ Some t.level

-- two literals of the clause were set at the current level
pub record HasTwoCurrent (t : State) (clause : List Lit) : Type 0 where
  pub one : Lit
  pub other : Lit
  pub differ : one ≢ other
  pub one_among : Contains clause one
  pub other_among : Contains clause other
  pub one_current : IsCurrent t one
  pub other_current : IsCurrent t other

-- a literal of the clause was set at the current level
pub record HasCurrent (t : State) (clause : List Lit) : Type 0 where
  pub literal : Lit
  pub among : Contains clause literal
  pub current : IsCurrent t literal

-- the links resolve the clause of the number down to one that the first entries make false
pub record Resolving
    (t : State) (number : ℕ) (chain : Chain) (clause : List Lit) (position : ℕ) : Type 0 where
  pub within : position ≤ length t.entries
  pub first : chain.first ≡ number
  pub derives : Derives (numbering_of t) chain clause
  pub falsified : Falsifies (values_of (take position t.entries)) clause

-- the chain derives, by at least one link, a false clause with one literal of the current level
pub record IsLearned (t : State) (chain : Chain) (clause : List Lit) : Type 0 where
  pub derives : Derives (numbering_of t) chain clause
  pub linked : chain.links ≢ []
  pub falsified : Falsifies (values_of t.entries) clause
  pub current : HasCurrent t clause
  pub only_one : ¬ HasTwoCurrent t clause

-- the highest level below the current one that a literal of the clause has, or 0
pub record IsLowerLevel (t : State) (clause : List Lit) (level : ℕ) : Type 0 where
  pub lower : level < t.level
  pub reached : (level ≡ 0) ⊎
      ((l : Lit) × Contains clause l × (level_of t.entries l.var ≡ Some level))
  pub highest : All (λ l. (n : ℕ) → level_of t.entries l.var ≡ Some n → n < t.level → n ≤ level)
      clause

-- the chain derives the empty clause from the clause of the number
pub record Refuted (t : State) (number : ℕ) (chain : Chain) (clause : List Lit) : Type 0 where
  pub first : chain.first ≡ number
  pub derives : Derives (numbering_of t) chain clause
  pub empty : clause ≡ []

-- the entry at the position has a reason if the clause holds the negation of its literal
abbrev pub HasReason : State → List Lit → ℕ → Type 0
HasReason t clause position =
    (e : Entry) → slice_get t.entries position ≡ Some e →
    Contains clause (negated e.lit) → IsSome e.reason

-- what is left of a trail at a lower level
abbrev pub at_level : ℕ → State → State
at_level level t =
    record t { entries = up_to level t.entries; level = level; ready = false }

-- the clause of the chain was added, at a lower level, to those of a trail at a conflict
pub record Learns (old new : State) (chain : Chain) : Type 0 where
  pub clause : List Lit
  pub learned : IsLearned old chain clause
  pub level : ℕ
  pub number : ℕ
  pub adds : Adds (at_level level old) clause new number
  pub sound : IsTrail new
