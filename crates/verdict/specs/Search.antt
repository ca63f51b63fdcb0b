-- What the search for a model of a formula finds, with its refutation checked.
use Rattle.std.specs.Prelude.{ℕ}
use Rattle.clause_core.specs.declared.formula.Formula.{Formula}
use Rattle.clause_core.specs.Clause.{IsUnsatisfiable}
use Rattle.sat_solver.specs.declared.outcome.Outcome.{Outcome}
use Rattle.sat_solver.specs.declared.outcome.Outcome.TheVariants.{Budget, Sat, Unsat}
use Rattle.sat_solver.specs.Outcome.{IsOutcome}

-- a refuted formula has no model
abbrev pub IsSound : Formula → Outcome → Type 0
IsSound f (Sat assignment) = Unit {0}
IsSound f (Unsat log) = IsUnsatisfiable f.clauses
IsSound f (Budget log) = Unit {0}

-- what the search finds, checked
pub record IsFound (f : Formula) (budget : ℕ) (outcome : Outcome) : Type 0 where
  pub right : IsOutcome f budget outcome
  pub sound : IsSound f outcome
