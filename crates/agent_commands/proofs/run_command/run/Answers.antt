-- The answer is that to the job: the verdicts, and then what its agents play if the protocol is found safe.
use Rattle.std.proofs.Common.{subst}
use Rattle.verdict_commands.specs.VerifyAnswer.{IsVerdictAnswer}
use Rattle.agent_commands.proofs.RunAnswers.{run_answer}
use Rattle.agent_commands.proofs.run_command.run.Goals as goal

pub returns : goal.returns
returns c =
    let found = c.in_ok-found.found in
    let job = c.in_ok-job.job in
    let verified = subst (λ y. IsVerdictAnswer c.args.brief c.args.conflicts y found.verdicts found.reply.text) c.admitted.ensures c.in_ok-found.ensures.answer in record {
      ok = run_answer c.args.brief c.args.conflicts c.args.threads c.args.protocol c.args.part.now job found.verdicts found.reply c.play_if_safe.result c.in_ok-job.ensures.ok verified c.in_ok-found.ensures.ends c.play_if_safe.ensures.right;
      safe = c.play_if_safe.ensures.safe c.args.conflicts verified.right.safety;
      refused = tt;
    }
