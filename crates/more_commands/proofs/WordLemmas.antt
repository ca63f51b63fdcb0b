-- What makes an answer in words, and answers without them.
use Rattle.std.proofs.Common.{◌≡◌, ℕ, Bool, List, ◌++◌, refl, sym, ap, subst, ◌∙◌}
use Rattle.ask_commands.specs.AskRules.{ask_rules}
use Rattle.ask_commands.specs.AskTask.{AskTask}
use Rattle.verdict_commands.specs.VerifyAnswer.{IsVerdictAnswer}
use Rattle.bspl_tool.specs.declared.task.Task.{Task}
use Rattle.bspl_tool.specs.declared.task.Task.TheVariants as tasks
use Rattle.bspl_tool.specs.Task.{task_rules}
use Rattle.bspl_types.specs.declared.expanded.Expanded.{Expanded}
use Rattle.program_frame.specs.declared.reply.Reply.{Reply}
use Rattle.report.specs.ExitStatus.{verdict_status}
use Rattle.tool_input.specs.declared.status.Status.{Status}
use Rattle.verdict.specs.declared.outcome.Verdicts.{Verdicts}
use Rattle.answer_words.specs.VerdictText.{IsVerdictWords}
use Rattle.more_commands.specs.AskWords.{ask_words}
use Rattle.more_commands.specs.ExplainAsk.{AnswersAskInWords}
use Rattle.more_commands.specs.ExplainAnswer.{AnswersInWords, IsExplainedAnswer}
use Rattle.more_commands.specs.StatusWords.{status_words}

-- words behind a right answer with verdicts
pub words_behind : (brief : Bool) (budget : ℕ) (x : Expanded) (v : Verdicts) (said reply : Reply Status) (words : List ℕ) → IsVerdictAnswer brief budget x v said.text → said.status ≡ verdict_status v.safety v.liveness → IsVerdictWords x v words → reply.text ≡ said.text ++ words → reply.status ≡ said.status → IsExplainedAnswer brief budget x reply.text reply.status
words_behind brief budget x v said reply words answer ends are text status = record {
  verdicts = v;
  verdict_text = said.text;
  answer = answer;
  words = words;
  are_words = are;
  text = text;
  ends = status ∙ ends;
}

-- after an answer to another task than `verify` come the words of its status
pub other_answer : (task : Task) → ((brief : Bool) (budget : ℕ) → task ≡ tasks.Verify brief budget → ⊥) → (x : Expanded) (given answer out : List ℕ) (status : Status) → (task_rules task).answers x given answer status → out ≡ answer ++ status_words task status → AnswersInWords task x given out status
other_answer (tasks.Verify brief budget) other x given answer out status answers text = absurd (other brief budget refl)
other_answer task other x given answer out status answers text = record { answer = answer; right = answers; text = text }

-- so it is after an answer of `ask`
pub asked_words : (task : AskTask) (x : Expanded) (given : List ℕ) (said reply : Reply Status) (words : List ℕ) → (ask_rules task).answers x given said.text said.status → words ≡ ask_words task said.status → reply.text ≡ said.text ++ words → reply.status ≡ said.status → AnswersAskInWords task x given reply.text reply.status
asked_words task x given said reply words right are text ends = record {
  answer = said.text;
  right = subst (λ (s : Status). (ask_rules task).answers x given said.text s) (sym ends) right;
  text = text ∙ ap (λ (list : List ℕ). said.text ++ list) (are ∙ ap (λ (s : Status). ask_words task s) (sym ends));
}
