-- When the answer to whether a question is possible is right: with the evidence for it.
use Rattle.std.specs.Prelude.{◌≡◌, ℕ, ◌<◌, ◌≤◌, Bool, List, length, take}
use Rattle.std.specs.List.{All}
use Rattle.bspl_types.specs.declared.event.Event.{Event}
use Rattle.bspl_types.specs.declared.expanded.Expanded.{Expanded}
use Rattle.bspl_types.specs.History.{IsRun, instance_of}
use Rattle.clause_core.specs.declared.formula.Formula.{Formula}
use Rattle.clause_core.specs.Clause.{SatisfiesAll}
use Rattle.clause_encoding.specs.Formula.{plain_variables}
use Rattle.enactment_model.specs.Legal.{IsLegalRun}
use Rattle.question_formula.specs.Formula.{IsQuestionFormula, question_clauses}
use Rattle.questions.specs.declared.question.Question.{Question}
use Rattle.questions.specs.Answer.{IsAnsweredYes, IsPossible}
use Rattle.refutation_log.specs.declared.refutation.Log.{Log}
use Rattle.refutation_log.specs.LogText.{LogInRange}
use Rattle.refutation_log.specs.Resolution.{Accepts, IsNew}
use Rattle.verdict.specs.Decision.{IsUndecidedVerdict}
use Rattle.witness_replay.specs.Witness.{IsRunOfAssignment, key_of_ones}
use Rattle.question_answer.specs.declared.answer.Answer.{Answer}
use Rattle.question_answer.specs.declared.answer.Answer.TheVariants.{Impossible, Possible, Undecided}

-- the run is the shortest prefix of the whole one at the end of which the answer is yes
pub record IsFirstYes (x : Expanded) (q : Question) (whole run : List Event) : Type 0 where
  pub moment : ℕ
  pub cut : run ≡ take moment whole
  pub yes : IsAnsweredYes x run (key_of_ones x) q
  pub not_before : (earlier : ℕ) → earlier < moment →
      ¬ IsAnsweredYes x (take earlier whole) (key_of_ones x) q

-- the run is that of an assignment, so cut; all of it is under the key of ones
pub record IsAnsweringRun (x : Expanded) (q : Question) (v : ℕ → Bool) (run : List Event)
    : Type 0 where
  pub whole : List Event
  pub run_of : IsRunOfAssignment x (plain_variables x) v whole
  pub cut : IsFirstYes x q whole run
  pub ones : All (λ e. (instance_of e).key ≡ key_of_ones x) run

-- the run is legal, and that of a model of the formula, so the question is possible
pub record IsShownPossible (x : Expanded) (q : Question) (run : List Event) : Type 0 where
  pub assignment : ℕ → Bool
  pub satisfied : SatisfiesAll assignment (question_clauses x q)
  pub answering : IsAnsweringRun x q assignment run
  pub legal : IsLegalRun x run
  pub possible : IsPossible x q

-- no legal run gives the answer yes at any key; the log is new, within the budget, and refutes the
-- formula
pub record IsShownImpossible (x : Expanded) (q : Question) (budget : ℕ) (log : Log)
    : Type 0 where
  pub formula : Formula
  pub is_formula : IsQuestionFormula x q formula
  pub accepts : Accepts formula log
  pub new : IsNew formula log
  pub within : length log.steps ≤ budget
  pub impossible : ¬ IsPossible x q

-- the answer is right
abbrev pub HasEvidence : Expanded → Question → ℕ → Answer → Type 0
HasEvidence x q budget (Possible run) = IsShownPossible x q run
HasEvidence x q budget (Impossible log) = IsShownImpossible x q budget log
HasEvidence x q budget (Undecided log) = IsUndecidedVerdict (IsQuestionFormula x q) budget log

-- the numbers of its log, if it has one, are in range
abbrev pub HasAnswerLogInRange : Answer → Type 0
HasAnswerLogInRange (Possible run) = Unit {0}
HasAnswerLogInRange (Impossible log) = LogInRange log
HasAnswerLogInRange (Undecided log) = LogInRange log

-- the events of its run, if it has one, fit the protocol
abbrev pub HasFittingEvents : Expanded → Answer → Type 0
HasFittingEvents x (Possible run) = IsRun x run
HasFittingEvents x (Impossible log) = Unit {0}
HasFittingEvents x (Undecided log) = Unit {0}
