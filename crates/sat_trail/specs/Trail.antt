-- What every trail keeps, and what its calls do.
use Rattle.std.specs.Prelude.{◌≡◌, ◌≢◌, ℕ, ◌+◌, ◌<◌, ◌≤◌, IsTrue, Some, None, IsSome, IfSome}
use Rattle.std.specs.Prelude.{false, List, [], ◌++◌, length, All, Contains}
use Rattle.clause_core.specs.declared.literal.Lit.{Lit}
use Rattle.clause_core.specs.declared.formula.Formula.{Formula}
use Rattle.clause_core.specs.Clause.{VariablesExist}
use Rattle.clause_core.specs.Numbering.{numbered, HasNumber}
use Rattle.clause_core.specs.Propagation.{IsPropagated}
use Rattle.sat_trail.specs.declared.entry.Entry.{Entry}
use Rattle.sat_trail.specs.Entry.{entry_of, values_of}
use Rattle.sat_trail.specs.Levels.{HasLevels, HasCauses, IsPropagatedBelow}
use Rattle.sat_trail.specs.State.{State, numbering_of, last_number}

-- the variables of the entries exist
abbrev pub EntriesExist : State → Type 0
EntriesExist t = All (λ e. (0 < e.lit.var) × (e.lit.var ≤ t.vars)) t.entries

-- the variables of the live clauses exist
abbrev pub ClausesExist : State → Type 0
ClausesExist t = (number : ℕ) (clause : List Lit) →
    HasNumber (numbering_of t) number clause → VariablesExist t.vars clause

-- what every trail keeps
pub record IsTrail (t : State) : Type 0 where
  pub levels : HasLevels t
  pub causes : HasCauses t
  pub below : IsPropagatedBelow t
  pub exist : EntriesExist t
  pub clauses_exist : ClausesExist t
  pub ready_propagated : IsTrue t.ready → IsPropagated (values_of t.entries) (numbering_of t)

-- the formula's clauses have the numbers from 1 on, and nothing is set
pub record IsStart (f : Formula) (t : State) : Type 0 where
  pub vars : t.vars ≡ f.vars
  pub numbers : (n : ℕ) → numbering_of t n ≡ numbered f.clauses n
  pub last : last_number t ≡ length f.clauses
  pub empty : t.entries ≡ []
  pub level : t.level ≡ 0
  pub unready : t.ready ≡ false

-- the clause has the next number, the other numbers keep their clauses, and nothing is set
pub record Adds (old : State) (clause : List Lit) (new : State) (number : ℕ) : Type 0 where
  pub next : number ≡ last_number old + 1
  pub last : last_number new ≡ number
  pub has_number : HasNumber (numbering_of new) number clause
  pub others : (n : ℕ) → n ≢ number → numbering_of new n ≡ numbering_of old n
  pub rest : new ≡ record old { clauses = new.clauses; ready = false }

-- no entry has the clause of the number as its reason
abbrev pub IsNoReason : State → ℕ → Type 0
IsNoReason t number = All (λ e. e.reason ≢ Some number) t.entries

-- the number has no clause any more, the other numbers keep theirs, and all else stays
pub record Removes (old : State) (number : ℕ) (new : State) : Type 0 where
  pub gone : numbering_of new number ≡ None
  pub others : (n : ℕ) → n ≢ number → numbering_of new n ≡ numbering_of old n
  pub last : last_number new ≡ last_number old
  pub rest : new ≡ record old { clauses = new.clauses }

-- the literal is unset, or was set at the level
abbrev pub IsOpen : List Entry → ℕ → Lit → Type 0
IsOpen entries level l = IfSome (entry_of entries l.var) (λ e. e.level ≡ level)

-- two literals of the clause are unset or were set at the level
pub record HasTwoOpen (entries : List Entry) (level : ℕ) (clause : List Lit) : Type 0 where
  pub one : Lit
  pub other : Lit
  pub differ : one ≢ other
  pub one_among : Contains clause one
  pub other_among : Contains clause other
  pub one_open : IsOpen entries level one
  pub other_open : IsOpen entries level other

-- the entries that were added are of the current level and have reasons; the rest stays
pub record Propagates (old new : State) : Type 0 where
  pub added : List Entry
  pub forced : All (λ e. (e.level ≡ old.level) × IsSome e.reason) added
  pub grows : new ≡ record old { entries = old.entries ++ added; ready = new.ready }
