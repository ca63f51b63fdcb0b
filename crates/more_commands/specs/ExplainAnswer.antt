-- What `explain` answers on an admitted protocol.
use Rattle.std.specs.Prelude.{◌≡◌, ℕ, Bool, List, ◌++◌}
use Rattle.answer_words.specs.VerdictText.{IsVerdictWords}
use Rattle.bspl_tool.specs.declared.task.Task.{Task}
use Rattle.bspl_tool.specs.declared.task.Task.TheVariants.{Verify}
use Rattle.bspl_tool.specs.Task.{task_rules}
use Rattle.bspl_types.specs.declared.expanded.Expanded.{Expanded}
use Rattle.report.specs.ExitStatus.{verdict_status}
use Rattle.more_commands.specs.StatusWords.{status_words}
use Rattle.tool_input.specs.Rules.{CommandRules}
use Rattle.tool_input.specs.declared.status.Status.{Status}
use Rattle.verdict.specs.declared.outcome.Verdicts.{Verdicts}
use Rattle.verdict_commands.specs.VerifyAnswer.{IsVerdictAnswer}

-- the text of some right verdicts, as `verify` gives it; then their words; and their status
pub record IsExplainedAnswer (brief : Bool) (budget : ℕ) (x : Expanded) (out : List ℕ)
    (status : Status) : Type 0 where
  pub verdicts : Verdicts
  pub verdict_text : List ℕ
  pub answer : IsVerdictAnswer brief budget x verdicts verdict_text
  pub words : List ℕ
  pub are_words : IsVerdictWords x verdicts words
  pub text : out ≡ verdict_text ++ words
  pub ends : status ≡ verdict_status verdicts.safety verdicts.liveness

-- a right answer of the tool to the task, with that status; then the words on such an answer
pub record AnswersWithWords (task : Task) (x : Expanded) (given out : List ℕ) (status : Status)
    : Type 0 where
  pub answer : List ℕ
  pub right : (task_rules task).answers x given answer status
  pub text : out ≡ answer ++ status_words task status

-- a right answer to the task in words: after verdicts of `verify` those on them
abbrev pub AnswersInWords : Task → Expanded → List ℕ → List ℕ → Status → Type 0
AnswersInWords (Verify brief budget) x given out status =
    IsExplainedAnswer brief budget x out status
AnswersInWords task x given out status = AnswersWithWords task x given out status

-- the rules of the tool's task, with words
abbrev pub explain_rules : Task → CommandRules
explain_rules task = record {
  needs = (task_rules task).needs;
  answers = AnswersInWords task;
  refuses = (task_rules task).refuses;
  is_determined = ⊥;
}
