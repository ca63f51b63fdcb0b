-- What `ask` answers with `--check` on an admitted protocol and the text of a log on a question.
use Rattle.std.specs.Prelude.{◌≡◌, ◌⊎◌, ℕ, List, ◌++◌, codes, Some}
use Rattle.bspl_types.specs.declared.expanded.Expanded.{Expanded}
use Rattle.log_checker.specs.declared.refusal.Reject.{Reject}
use Rattle.question_answer.specs.Check.{AcceptsImpossible, FailsImpossible}
use Rattle.question_answer.specs.QuestionLog.{IsRefusedRest, IsRestOfLog, IsTitled}
use Rattle.question_text.specs.Tree.{Phrase}
use Rattle.questions.specs.declared.question.Question.{Question}
use Rattle.questions.specs.Answer.{IsPossible}
use Rattle.refutation_log.specs.declared.refusal.LogRefusal.{LogRefusal}
use Rattle.refutation_log.specs.declared.refusal.LogRefusal.TheVariants.{Form, NoMemory, Number}
use Rattle.refutation_log.specs.declared.refutation.Log.{Log}
use Rattle.refutation_log.specs.declared.refutation.Version.{Version}
use Rattle.rejections.specs.FailureLine.{reject_line}
use Rattle.rejections.specs.PartRejection.{log_rejection}
use Rattle.tool_input.specs.declared.need.Need.TheVariants.{Part}
use Rattle.tool_input.specs.declared.parts.Part.TheVariants as part
use Rattle.tool_input.specs.declared.rejection.Rejection.{Rejection}
use Rattle.tool_input.specs.declared.status.Status.{Status}
use Rattle.tool_input.specs.declared.status.Status.TheVariants.{Done, Refuted}
use Rattle.tool_input.specs.Lines.{line}
use Rattle.tool_input.specs.Rules.{CommandRules}
use Rattle.ask_commands.specs.TitledQuestion.{HasQuestionTitle, IsSpelledQuestion}

-- the bytes are the text of the log on this question, which is so spelled
pub record IsLogOnQuestion (x : Expanded) (bytes spelling : List ℕ) (q : Question) (log : Log)
    : Type 0 where
  pub version : Version
  pub rest : List ℕ
  pub titled : IsTitled bytes version spelling rest
  pub phrase : Phrase
  pub asks : IsSpelledQuestion x spelling phrase q
  pub is_rest : IsRestOfLog version rest log

-- the log is accepted, so that no legal run gives the answer yes, and the text says so
pub record SaysAcceptedImpossible (x : Expanded) (title : List ℕ) (q : Question) (log : Log)
    (out : List ℕ) (status : Status) : Type 0 where
  pub accepts : AcceptsImpossible x q log
  pub impossible : ¬ IsPossible x q
  pub text : out ≡ line (codes "accepted impossible " ++ title)
  pub done : status ≡ Done

-- the log is not accepted, and the text names its first failure
pub record SaysRejectedImpossible (x : Expanded) (q : Question) (log : Log) (out : List ℕ)
    (status : Status) : Type 0 where
  pub reject : Reject
  pub fails : FailsImpossible x q log reject
  pub text : out ≡ reject_line reject
  pub refuted : status ≡ Refuted

-- the part is the text of a log on a question, and the answer says whether it is accepted
pub record IsCheckAskAnswer (x : Expanded) (part out : List ℕ) (status : Status) : Type 0 where
  pub spelling : List ℕ
  pub question : Question
  pub log : Log
  pub read : IsLogOnQuestion x part spelling question log
  pub answer : SaysAcceptedImpossible x spelling question log out status ⊎
      SaysRejectedImpossible x question log out status

-- after such a first line comes what is refused so
pub record IsRefusedAfterTitle (x : Expanded) (part : List ℕ) (refusal : LogRefusal)
    : Type 0 where
  pub title : HasQuestionTitle x part
  pub refused : IsRefusedRest title.version title.rest refusal

-- the refusal names the first bad line, and in what way it is bad
abbrev pub IsRefusedQuestionLog : Expanded → List ℕ → LogRefusal → Type 0
IsRefusedQuestionLog x part (Form number) =
    ((¬ HasQuestionTitle x part) × (number ≡ 1)) ⊎ IsRefusedAfterTitle x part (Form number)
IsRefusedQuestionLog x part (Number number) = IsRefusedAfterTitle x part (Number number)
IsRefusedQuestionLog x part NoMemory = Unit {0}

-- the part is the text of no such log
pub record IsCheckAskRefused (x : Expanded) (part : List ℕ) (r : Rejection) : Type 0 where
  pub refusal : LogRefusal
  pub refused : IsRefusedQuestionLog x part refusal
  pub rejection_is : log_rejection refusal ≡ Some r

-- it needs a log
abbrev pub check_log_rules : CommandRules
check_log_rules = record {
  needs = Part part.Log;
  answers = IsCheckAskAnswer;
  refuses = IsCheckAskRefused;
  is_determined = ⊥;
}
