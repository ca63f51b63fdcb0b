-- What the end of a search says of its formula and its steps.
use Rattle.std.specs.Prelude.{◌≡◌, ℕ, List, []}
use Rattle.clause_core.specs.declared.formula.Formula.{Formula}
use Rattle.refutation_log.specs.declared.refutation.Chain.{Chain}
use Rattle.refutation_log.specs.declared.refutation.Log.{Log}
use Rattle.sat_solver.specs.declared.solver.Ending.{Ending}
use Rattle.sat_solver.specs.declared.solver.Ending.TheVariants.{Model, Refuted, Spent}
use Rattle.sat_solver.specs.Outcome.{IsModel, Refutes, Spends}

-- the log has these steps and removes nothing
pub record IsPlain (steps : List Chain) (log : Log) : Type 0 where
  pub same : log.steps ≡ steps
  pub none : log.removals ≡ []

-- the assignment is a model, or the steps are a log that refutes the formula or spends the budget
abbrev pub IsEnding : Formula → ℕ → List Chain → Ending → Type 0
IsEnding f budget steps (Model assignment) = IsModel f assignment
IsEnding f budget steps Refuted = (log : Log) → IsPlain steps log → Refutes f budget log
IsEnding f budget steps Spent = (log : Log) → IsPlain steps log → Spends f budget log
