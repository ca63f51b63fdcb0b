-- What the outcome of a search is answered by.
use Rattle.std.specs.Prelude.{◌≡◌, ℕ, List}
use Rattle.bspl_types.specs.declared.event.Event.{Event}
use Rattle.bspl_types.specs.declared.expanded.Expanded.{Expanded}
use Rattle.bspl_types.specs.declared.property.Property.{Property}
use Rattle.clause_core.specs.declared.formula.Formula.{Formula}
use Rattle.clause_core.specs.Clause.{IsUnsatisfiable}
use Rattle.enactment_model.specs.Property.{Holds}
use Rattle.refutation_log.specs.declared.refutation.Log.{Log}
use Rattle.sat_solver.specs.declared.outcome.Outcome.{Outcome}
use Rattle.sat_solver.specs.declared.outcome.Outcome.TheVariants.{Budget, Sat, Unsat}
use Rattle.sat_solver.specs.Outcome.{IsOutcome}
use Rattle.verdict.specs.declared.outcome.Decision.{Decision}
use Rattle.verdict.specs.declared.outcome.Decision.TheVariants.{Proved, Refuted, Undecided}
use Rattle.verdict.specs.declared.outcome.Liveness.{Liveness}
use Rattle.verdict.specs.declared.outcome.Liveness.TheVariants.{NotLive}
use Rattle.verdict.specs.declared.outcome.Safety.{Safety}
use Rattle.verdict.specs.declared.outcome.Safety.TheVariants.{Unsafe}
use Rattle.verdict.specs.Decision.{IsRefuted}
use Rattle.verdict.specs.Right.{IsUnsafeVerdict}
use Rattle.verdict.specs.RightLiveness.{IsNotLiveVerdict}

-- the outcome is the log, and the formula has no model
pub record IsChecked (f : Formula) (log : Log) (outcome : Outcome) : Type 0 where
  pub is_log : outcome ≡ Unsat log
  pub no_model : IsUnsatisfiable f.clauses

-- the answer is to what the search found about the formula
pub record IsAnswered {A : Type 0} (f : Formula) (budget : ℕ) (Answers : Outcome → A → Type 0)
    (answer : A) : Type 0 where
  pub outcome : Outcome
  pub is_outcome : IsOutcome f budget outcome
  pub answers : Answers outcome answer

-- the decision is a run that refutes the property
pub record HasRefutingRun (property : Property) (x : Expanded) (decision : Decision)
    : Type 0 where
  pub run : List Event
  pub is_refuted : decision ≡ Refuted run
  pub right : IsRefuted property x run

-- the decision is the log, and the protocol has the property
pub record IsProvedBy (property : Property) (x : Expanded) (log : Log) (decision : Decision)
    : Type 0 where
  pub is_proved : decision ≡ Proved log
  pub right : Holds property x

-- an assignment is answered by a run, a refutation by its log, and the budget's end by its log
abbrev pub IsAnswer : Property → Expanded → Outcome → Decision → Type 0
IsAnswer property x (Sat assignment) decision = HasRefutingRun property x decision
IsAnswer property x (Unsat log) decision = IsProvedBy property x log decision
IsAnswer property x (Budget log) decision = decision ≡ Undecided log

-- the answer is that the run refutes safety, with its least conflict
pub record IsUnsafeBy (x : Expanded) (run : List Event) (safety : Safety) : Type 0 where
  pub param : ℕ
  pub first : ℕ
  pub second : ℕ
  pub is_unsafe : safety ≡ Unsafe run param first second
  pub right : IsUnsafeVerdict x run param first second

-- the answer is that the run refutes liveness, with the first parameter that it leaves unbound
pub record IsNotLiveBy (x : Expanded) (run : List Event) (liveness : Liveness) : Type 0 where
  pub param : ℕ
  pub is_not_live : liveness ≡ NotLive run param
  pub right : IsNotLiveVerdict x run param
