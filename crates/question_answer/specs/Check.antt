-- Logs against the formula of a question.
use Rattle.bspl_types.specs.declared.expanded.Expanded.{Expanded}
use Rattle.clause_core.specs.declared.formula.Formula.{Formula}
use Rattle.log_checker.specs.declared.refusal.Reject.{Reject}
use Rattle.log_checker.specs.FirstFailure.{FailsFirst}
use Rattle.question_formula.specs.Formula.{IsQuestionFormula}
use Rattle.questions.specs.declared.question.Question.{Question}
use Rattle.refutation_log.specs.declared.refutation.Log.{Log}
use Rattle.refutation_log.specs.Resolution.{Accepts}

-- the log derives the empty clause from the formula
pub record AcceptsImpossible (x : Expanded) (q : Question) (log : Log) : Type 0 where
  pub formula : Formula
  pub is_formula : IsQuestionFormula x q formula
  pub accepts : Accepts formula log

-- it does not, and this is its first failure
pub record FailsImpossible (x : Expanded) (q : Question) (log : Log) (reject : Reject)
    : Type 0 where
  pub formula : Formula
  pub is_formula : IsQuestionFormula x q formula
  pub fails : FailsFirst formula log reject
