-- The literals that an analysis has gathered, which are false under the trail.
use Rattle.std.specs.Prelude.{◌≡◌, ◌≢◌, ℕ, ◌↔◌, ◌⊎◌, Bool, false, Some, List, Contains, slice_get}
use Rattle.std.specs.Prelude.{count_by, unwrap_or, ◌==◌, All}
use Rattle.std.specs.Option.{option_map}
use Rattle.clause_core.specs.declared.literal.Lit.{Lit}
use Rattle.clause_core.specs.Literal.{negated}
use Rattle.clause_core.specs.Clause.{IsAscending, HasExactly}
use Rattle.clause_core.specs.Propagation.{Falsifies}
use Rattle.clause_core.specs.Resolvent.{Keeps}
use Rattle.refutation_log.specs.declared.refutation.Chain.{Chain}
use Rattle.sat_trail.specs.declared.entry.Entry.{Entry}
use Rattle.sat_trail.specs.Entry.{values_of, level_of}
use Rattle.sat_trail.specs.State.{State}
use Rattle.sat_solver.specs.declared.analysis.Derivation.{Derivation}
use Rattle.sat_solver.specs.declared.false_lits.FalseLits.{FalseLits}
use Rattle.sat_solver.specs.inner.LiteralSet.{IsLiteralSet}
use Rattle.sat_solver.specs.inner.Analysis.{Resolving, IsLearned}

-- whether the literal was set at the current level
abbrev pub is_current : State → Lit → Bool
is_current t l =
    unwrap_or (option_map (λ level. level == t.level) (level_of t.entries l.var)) false

-- the trail makes the literals of the set false, and counts those of the current level
pub record AreFalse (t : State) (f : FalseLits) : Type 0 where
  pub vars : f.set.vars ≡ t.vars
  pub set : IsLiteralSet f.set
  pub falsified : Falsifies (values_of t.entries) f.set.lits
  pub counted : f.current ≡ count_by (is_current t) f.set.lits

-- the new set has the old literals and this one
pub record AddsLiteral (old : List Lit) (lit : Lit) (new : List Lit) : Type 0 where
  pub members : (l : Lit) → Contains new l ↔ (Contains old l ⊎ (lit ≡ l))

-- the new set has the old literals and those of the clause
pub record AddsLiterals (old clause new : List Lit) : Type 0 where
  pub members : (l : Lit) → Contains new l ↔ (Contains old l ⊎ Contains clause l)

-- the new set has the literals of the resolvent
pub record ResolvesSet (old : List Lit) (pivot : Lit) (clause new : List Lit) : Type 0 where
  pub members : (l : Lit) → Contains new l ↔ (Keeps old pivot l ⊎ Keeps clause (negated pivot) l)

-- the literals of the clause but for this one were set below the current level
abbrev pub OthersAreLower : State → List Lit → Lit → Type 0
OthersAreLower t clause lit = All (λ l. (l ≡ lit) ⊎ (is_current t l ≡ false)) clause

-- the derivation has the chain and the clause of the literals
pub record IsDerivationOf (chain : Chain) (lits : List Lit) (d : Derivation) : Type 0 where
  pub same : d.chain ≡ chain
  pub ascending : IsAscending d.clause
  pub exactly : HasExactly d.clause lits

-- the links resolve the clause of the number down to the literals of the set
pub record Gathers
    (t : State) (number : ℕ) (chain : Chain) (f : FalseLits) (position : ℕ) : Type 0 where
  pub clause : List Lit
  pub exactly : HasExactly clause f.set.lits
  pub ascending : IsAscending clause
  pub resolving : Resolving t number chain clause position
  pub are_false : AreFalse t f

-- the literals are resolved on the literal at the position, and the others are kept
pub record StepsOver (t : State) (old new : Chain) (f g : FalseLits) (position : ℕ) : Type 0 where
  pub gathers : Gathers t old.first new g position
  pub kept : (l : Lit) (e : Entry) → Contains f.set.lits l → slice_get t.entries position ≡ Some e →
      l ≢ negated e.lit → Contains g.set.lits l

-- the chain derives the clause of the literals, which are false, and one of the current level
pub record Asserts (t : State) (chain : Chain) (f : FalseLits) : Type 0 where
  pub clause : List Lit
  pub exactly : HasExactly clause f.set.lits
  pub ascending : IsAscending clause
  pub learned : IsLearned t chain clause
  pub are_false : AreFalse t f
