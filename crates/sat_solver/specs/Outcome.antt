-- What each outcome of the solver says of the formula.
use Rattle.std.specs.Prelude.{◌≡◌, ℕ, ◌≤◌, Bool, List, [], length, Contains}
use Rattle.clause_core.specs.declared.literal.Lit.{Lit}
use Rattle.clause_core.specs.declared.formula.Formula.{Formula}
use Rattle.clause_core.specs.Assignment.{valuation}
use Rattle.clause_core.specs.Clause.{SatisfiesAll}
use Rattle.refutation_log.specs.declared.refutation.Log.{Log}
use Rattle.refutation_log.specs.Resolution.{Accepts, IsNew, LogResolves}
use Rattle.sat_solver.specs.declared.outcome.Outcome.{Outcome}
use Rattle.sat_solver.specs.declared.outcome.Outcome.TheVariants.{Sat, Unsat, Budget}

-- the assignment has exactly the formula's variables, and satisfies its clauses
pub record IsModel (f : Formula) (assignment : List Bool) : Type 0 where
  pub whole : length assignment ≡ f.vars
  pub satisfies : SatisfiesAll (valuation assignment) f.clauses

-- the log has no steps and no removals
pub record IsEmptyLog (log : Log) : Type 0 where
  pub steps : log.steps ≡ []
  pub removals : log.removals ≡ []

-- the log is accepted, new and within the budget, and empty if a clause of the formula is
pub record Refutes (f : Formula) (budget : ℕ) (log : Log) : Type 0 where
  pub accepted : Accepts f log
  pub new : IsNew f log
  pub within : length log.steps ≤ budget
  pub none_needed : Contains f.clauses [] → IsEmptyLog log

-- the log is new, has exactly as many steps as the budget allows, and derives no empty clause
pub record Spends (f : Formula) (budget : ℕ) (log : Log) : Type 0 where
  pub new : IsNew f log
  pub spent : length log.steps ≡ budget
  pub derived : List (List Lit)
  pub resolves : LogResolves f log derived
  pub no_empty : ¬ Contains derived []

-- the outcome is right
abbrev pub IsOutcome : Formula → ℕ → Outcome → Type 0
IsOutcome f budget (Sat assignment) = IsModel f assignment
IsOutcome f budget (Unsat log) = Refutes f budget log
IsOutcome f budget (Budget log) = Spends f budget log
