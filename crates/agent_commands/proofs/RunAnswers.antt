-- What `run` answers, from what is found and played.
use Rattle.std.proofs.Common.{◌≡◌, ℕ, Bool, List, ◌∙◌, subst}
use Rattle.agent_scripts.specs.Job.{Job}
use Rattle.bspl_types.specs.declared.expanded.Expanded.{Expanded}
use Rattle.program_frame.specs.declared.reply.Reply.{Reply}
use Rattle.report.specs.ExitStatus.{verdict_status}
use Rattle.tool_input.specs.Answer.{IsRightAnswer}
use Rattle.tool_input.specs.declared.status.Status.{Status}
use Rattle.verdict.specs.declared.outcome.Verdicts.{Verdicts}
use Rattle.agent_commands.specs.declared.answer.Answer.{Answer}
use Rattle.agent_commands.specs.declared.play_mode.PlayMode.TheVariants.{InThreads}
use Rattle.agent_commands.specs.declared.world_report.WorldReport.TheVariants.{Table}
use Rattle.agent_commands.specs.Answer.{Completes}
use Rattle.agent_commands.specs.RunAnswer.{IsJobAnswer, IsRunAnswer}
use Rattle.verdict_commands.specs.VerifyAnswer.{IsVerdictAnswer}
use Rattle.agent_commands.specs.inner.IfSafe.{PlaysIfSafe}
use Rattle.agent_commands.specs.inner.Job.{IsGivenJob}
use Rattle.agent_commands.proofs.PlayAnswers.{report_if_safe}

-- an answer to the job is one of the command
given_answer : (brief : Bool) (budget threads : ℕ) (x : Expanded) (part : List ℕ) (job : Job) (out : List ℕ) (status : Status) → IsGivenJob x part job → IsJobAnswer brief budget threads job out status → IsRunAnswer brief budget threads x part out status
given_answer brief budget threads x part job out status given answer = record {
  script = job.script;
  plan = job.plan;
  given = given.given;
  answer = subst (λ y. IsJobAnswer brief budget threads (record { protocol = y; script = job.script; plan = job.plan }) out status) given.protocol answer;
}

-- so is what begins with the reply of right verdicts
pub run_answer : (brief : Bool) (budget threads : ℕ) (x : Expanded) (part : List ℕ) (job : Job) (v : Verdicts) (reply : Reply Status) (a : Answer) → IsGivenJob x part job → IsVerdictAnswer brief budget job.protocol v reply.text → reply.status ≡ verdict_status v.safety v.liveness → IsRightAnswer Completes (PlaysIfSafe job (InThreads threads Table) v.safety reply) a → IsRightAnswer Completes (IsRunAnswer brief budget threads x part) a
run_answer brief budget threads x part job v reply a given verified ends plays = λ out status completes.
    let said = plays out status completes in
    given_answer brief budget threads x part job out status given (record {
      verdicts = v;
      verdict_text = reply.text;
      verified = verified;
      ends = said.ends ∙ ends;
      agents_text = said.agents_text;
      played = report_if_safe threads Table job v.safety said.agents_text said.played;
      text = said.text;
    })
