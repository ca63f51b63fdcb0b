-- Which variables are left to decide, and what an assignment satisfies.
use Rattle.std.specs.Prelude.{◌≡◌, ℕ, ◌<◌, ◌≤◌, Bool, List, None, IsSome}
use Rattle.clause_core.specs.declared.literal.Lit.{Lit}
use Rattle.clause_core.specs.Clause.{Satisfies}
use Rattle.clause_core.specs.Numbering.{Numbering, HasNumber}
use Rattle.sat_trail.specs.Entry.{values_of}
use Rattle.sat_trail.specs.State.{State}

-- the literal's variable exists and has no value
pub record IsFree (t : State) (l : Lit) : Type 0 where
  pub from_one : 0 < l.var
  pub exists : l.var ≤ t.vars
  pub no_value : values_of t.entries l.var ≡ None

-- each variable up to this one has a value
abbrev pub AreSetUpTo : State → ℕ → Type 0
AreSetUpTo t last = (v : ℕ) → 0 < v → v ≤ last → IsSome (values_of t.entries v)

-- each variable has a value
abbrev pub AllSet : State → Type 0
AllSet t = AreSetUpTo t t.vars

-- the valuation satisfies each clause that has a number
abbrev pub SatisfiesNumbered : (ℕ → Bool) → Numbering → Type 0
SatisfiesNumbered v numbering =
    (n : ℕ) (clause : List Lit) → HasNumber numbering n clause → Satisfies v clause
