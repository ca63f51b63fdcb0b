-- What the check of a formula says of the question.
use Rattle.std.proofs.Common.{◌≡◌, ◌↔◌, Result, Ok, Err}
use Rattle.std.specs.Prelude.{OnOk}
use Rattle.bspl_types.specs.declared.expanded.Expanded.{Expanded}
use Rattle.clause_core.specs.declared.formula.Formula.{Formula}
use Rattle.clause_core.specs.Clause.{IsUnsatisfiable}
use Rattle.clause_encoding.specs.Laws.{ClausesAreDetermined}
use Rattle.log_checker.specs.declared.refusal.Reject.{Reject}
use Rattle.log_checker.specs.FirstFailure.{AcceptedDoesNotFail, ClausesDecideFailure, FailsFirst, HasOneFailure}
use Rattle.question_formula.specs.Formula.{IsQuestionFormula, question_clauses}
use Rattle.question_formula.specs.Laws.{ImpossibleWithoutModel}
use Rattle.questions.specs.declared.question.Question.{Question}
use Rattle.questions.specs.Answer.{IsPossible}
use Rattle.questions.specs.Subject.{IsAbout}
use Rattle.refutation_log.specs.declared.refutation.Log.{Log}
use Rattle.refutation_log.specs.Resolution.{Accepts}
use Rattle.question_answer.specs.Check.{AcceptsImpossible, FailsImpossible}
use Rattle.question_answer.specs.Laws.{AcceptedQuestionLogDoesNotFail, QuestionLogFailsOnce}

module _ (one_list : ClausesAreDetermined) (x : Expanded) (q : Question) (f : Formula) (is : IsQuestionFormula x q f) (log : Log) where
  -- two formulas of the question have the same clauses
  agree : (g : Formula) → IsQuestionFormula x q g → g.clauses ≡ f.clauses
  agree g other = one_list (question_clauses x q) g.clauses f.clauses other.clauses is.clauses

  -- so the first failure for some such formula is that for each
  fails_each : ClausesDecideFailure → (reject : Reject) → FailsImpossible x q log reject → FailsFirst f log reject
  fails_each moved reject fails = moved fails.formula f log reject (agree fails.formula fails.is_formula) fails.fails

  -- each answer is the first failure for the question, and it is answered
  pub fails_exactly : ClausesDecideFailure → (r : Result (Unit {0}) Reject) (e : Reject) → (r ≡ Err e ↔ FailsFirst f log e) → (r ≡ Err e ↔ FailsImpossible x q log e)
  fails_exactly moved r e exactly = (
    λ same. record { formula = f; is_formula = is; fails = exactly.0 same },
    λ fails. exactly.1 (fails_each moved e fails),
  )

-- one first failure
pub one_failure : ClausesDecideFailure → ClausesAreDetermined → HasOneFailure → QuestionLogFailsOnce
one_failure moved one_list once x q log first second one other =
    once one.formula log first second one.fails (fails_each one_list x q one.formula one.is_formula log moved second other)

-- none of an accepted log
pub no_failure : ClausesDecideFailure → ClausesAreDetermined → AcceptedDoesNotFail → AcceptedQuestionLogDoesNotFail
no_failure moved one_list never x q log reject accepts fails =
    never accepts.formula log reject accepts.accepts (fails_each one_list x q accepts.formula accepts.is_formula log moved reject fails)

-- a log that the formula accepts is accepted for the question
pub accepted_if_ok : (x : Expanded) (q : Question) (f : Formula) (log : Log) (r : Result (Unit {0}) Reject) → IsQuestionFormula x q f → OnOk r (Accepts f log) → OnOk r (AcceptsImpossible x q log)
accepted_if_ok x q f log (Ok done) is accepts = record { formula = f; is_formula = is; accepts = accepts }
accepted_if_ok x q f log (Err reject) is accepts = tt

-- and then the question is impossible
pub impossible_if_ok : ImpossibleWithoutModel → (x : Expanded) (q : Question) (f : Formula) (r : Result (Unit {0}) Reject) → IsAbout x q → IsQuestionFormula x q f → OnOk r (IsUnsatisfiable f.clauses) → OnOk r (¬ IsPossible x q)
impossible_if_ok law x q f (Ok done) about is no_model = law x q f about is no_model
impossible_if_ok law x q f (Err reject) about is no_model = tt
