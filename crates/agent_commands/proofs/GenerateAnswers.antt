-- What `generate` answers, from what is found and played.
use Rattle.std.proofs.Common.{◌≡◌, ℕ, List, ◌++◌, ◌∙◌, ap, subst}
use Rattle.agent_scripts.specs.Job.{Job}
use Rattle.bspl_types.specs.declared.expanded.Expanded.{Expanded}
use Rattle.program_frame.specs.declared.reply.Reply.{Reply}
use Rattle.report.specs.ExitStatus.{verdict_status}
use Rattle.report.specs.Summary.{generated_text}
use Rattle.tool_input.specs.Answer.{IsRightAnswer}
use Rattle.tool_input.specs.declared.status.Status.{Status}
use Rattle.verdict.specs.declared.outcome.Verdicts.{Verdicts}
use Rattle.verdict.specs.Verdicts.{AreRightAnswers}
use Rattle.agent_commands.specs.declared.answer.Answer.{Answer}
use Rattle.agent_commands.specs.declared.play_mode.PlayMode.TheVariants.{InThreads}
use Rattle.agent_commands.specs.declared.world_report.WorldReport.TheVariants.{Summary}
use Rattle.agent_commands.specs.Answer.{Completes}
use Rattle.agent_commands.specs.GenerateAnswer.{IsGenerateAnswer, IsSummedUp}
use Rattle.agent_commands.specs.inner.IfSafe.{PlaysIfSafe}
use Rattle.agent_commands.specs.inner.Job.{IsGivenJob}
use Rattle.agent_commands.proofs.PlayAnswers.{report_if_safe}

-- an answer to the job is one of the command
given_answer : (stages budget threads : ℕ) (x : Expanded) (part : List ℕ) (job : Job) (out : List ℕ) (status : Status) → IsGivenJob x part job → IsSummedUp stages budget threads job out status → IsGenerateAnswer stages budget threads x part out status
given_answer stages budget threads x part job out status given answer = record {
  script = job.script;
  plan = job.plan;
  given = given.given;
  answer = subst (λ (y : Expanded). IsSummedUp stages budget threads (record { protocol = y; script = job.script; plan = job.plan }) out status) given.protocol answer;
}

-- so is what begins with the lines of right verdicts
pub generate_answer : (stages budget threads : ℕ) (x : Expanded) (part : List ℕ) (job : Job) (v : Verdicts) (reply : Reply Status) (a : Answer) → IsGivenJob x part job → AreRightAnswers job.protocol budget v → reply.text ≡ generated_text stages job.protocol v → reply.status ≡ verdict_status v.safety v.liveness → IsRightAnswer Completes (PlaysIfSafe job (InThreads threads Summary) v.safety reply) a → IsRightAnswer Completes (IsGenerateAnswer stages budget threads x part) a
generate_answer stages budget threads x part job v reply a given right lines ends plays = λ out status completes.
    let said = plays out status completes in
    given_answer stages budget threads x part job out status given (record {
      verdicts = v;
      right = right;
      ends = said.ends ∙ ends;
      agents_text = said.agents_text;
      played = report_if_safe threads Summary job v.safety said.agents_text said.played;
      text = said.text ∙ ap (λ (l : List ℕ). l ++ said.agents_text) lines;
    })
