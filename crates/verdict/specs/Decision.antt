-- When the decision on a property of a protocol is right: with the evidence for it.
use Rattle.std.specs.Prelude.{◌≡◌, ℕ, ◌≤◌, Bool, List, [], length}
use Rattle.std.specs.List.{Contains}
use Rattle.bspl_types.specs.declared.event.Event.{Event}
use Rattle.bspl_types.specs.declared.expanded.Expanded.{Expanded}
use Rattle.bspl_types.specs.declared.property.Property.{Property}
use Rattle.clause_core.specs.declared.formula.Formula.{Formula}
use Rattle.clause_core.specs.declared.literal.Lit.{Lit}
use Rattle.clause_encoding.specs.Formula.{IsFormula}
use Rattle.enactment_model.specs.Property.{Holds}
use Rattle.refutation_log.specs.declared.refutation.Log.{Log}
use Rattle.refutation_log.specs.LogText.{LogInRange}
use Rattle.refutation_log.specs.Resolution.{Accepts, IsNew, LogResolves}
use Rattle.sat_solver.specs.Outcome.{IsEmptyLog}
use Rattle.witness_replay.specs.Refuting.{IsCounterexample}
use Rattle.verdict.specs.declared.outcome.Decision.{Decision}
use Rattle.verdict.specs.declared.outcome.Decision.TheVariants.{Proved, Refuted, Undecided}

-- the protocol has the property; the log is new, within the budget, and refutes the formula
pub record IsHeldVerdict (property : Property) (x : Expanded) (budget : ℕ) (log : Log)
    : Type 0 where
  pub formula : Formula
  pub is_formula : IsFormula property x formula
  pub accepts : Accepts formula log
  pub new : IsNew formula log
  pub within : length log.steps ≤ budget
  pub holds : Holds property x

-- the protocol does not have it; the run is that of an assignment, and refutes the property
pub record IsRefuted (property : Property) (x : Expanded) (run : List Event) : Type 0 where
  pub assignment : ℕ → Bool
  pub refutation : IsCounterexample property x assignment run

-- the log is new over such a formula, has exactly as many steps as the budget allows, and derives
-- no empty clause
pub record IsUndecidedVerdict (IsFormulaOf : Formula → Type 0) (budget : ℕ) (log : Log)
    : Type 0 where
  pub formula : Formula
  pub is_formula : IsFormulaOf formula
  pub new : IsNew formula log
  pub exact : length log.steps ≡ budget
  pub derived : List (List Lit)
  pub resolves : LogResolves formula log derived
  pub none : ¬ Contains derived []

-- the decision is right
abbrev pub IsDecided : Property → Expanded → ℕ → Decision → Type 0
IsDecided property x budget (Proved log) = IsHeldVerdict property x budget log
IsDecided property x budget (Refuted run) = IsRefuted property x run
IsDecided property x budget (Undecided log) = IsUndecidedVerdict (IsFormula property x) budget log

-- the numbers of its log, if it has one, are in range
abbrev pub HasLogInRange : Decision → Type 0
HasLogInRange (Proved log) = LogInRange log
HasLogInRange (Refuted run) = Unit {0}
HasLogInRange (Undecided log) = LogInRange log

-- the property is proved by a log without steps and removals
abbrev pub IsProvedByEmptyLog : Decision → Type 0
IsProvedByEmptyLog (Proved log) = IsEmptyLog log
IsProvedByEmptyLog (Refuted run) = ⊥
IsProvedByEmptyLog (Undecided log) = ⊥
