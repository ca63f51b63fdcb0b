-- Logs against the formula of a message.
use Rattle.std.specs.Prelude.{ℕ}
use Rattle.bspl_types.specs.declared.expanded.Expanded.{Expanded}
use Rattle.clause_core.specs.declared.formula.Formula.{Formula}
use Rattle.log_checker.specs.declared.refusal.Reject.{Reject}
use Rattle.log_checker.specs.FirstFailure.{FailsFirst}
use Rattle.refutation_log.specs.declared.refutation.Log.{Log}
use Rattle.refutation_log.specs.Resolution.{Accepts}
use Rattle.enactability.specs.EnactFormula.{IsEnactFormula}

-- the log derives the empty clause from the formula
pub record AcceptsDead (x : Expanded) (m : ℕ) (log : Log) : Type 0 where
  pub formula : Formula
  pub is_formula : IsEnactFormula x m formula
  pub accepts : Accepts formula log

-- it does not, and this is its first failure
pub record FailsDead (x : Expanded) (m : ℕ) (log : Log) (reject : Reject) : Type 0 where
  pub formula : Formula
  pub is_formula : IsEnactFormula x m formula
  pub fails : FailsFirst formula log reject
