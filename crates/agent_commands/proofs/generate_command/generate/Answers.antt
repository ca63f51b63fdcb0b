-- The answer is that to the job: the verdicts in short, and then a summary of what its agents play if the protocol is
-- found safe.
use Rattle.std.proofs.Common.{◌≡◌, subst}
use Rattle.report.specs.Summary.{generated_text}
use Rattle.verdict.specs.Verdicts.{AreRightAnswers}
use Rattle.agent_commands.proofs.GenerateAnswers.{generate_answer}
use Rattle.agent_commands.proofs.generate_command.generate.Goals as goal

pub returns : goal.returns
returns c =
    let found = c.in_ok-found.found in
    let job = c.in_ok-job.job in
    let right = subst (λ y. AreRightAnswers y c.args.conflicts found.verdicts) c.admitted.ensures c.in_ok-found.ensures.right in
    let lines = subst (λ y. found.reply.text ≡ generated_text c.args.stages y found.verdicts) c.admitted.ensures c.in_ok-found.ensures.text in record {
      ok = generate_answer c.args.stages c.args.conflicts c.args.threads c.args.protocol c.args.part.now job found.verdicts found.reply c.play_if_safe.result c.in_ok-job.ensures.ok right lines c.in_ok-found.ensures.ends c.play_if_safe.ensures.right;
      safe = c.play_if_safe.ensures.safe c.args.conflicts right.safety;
      refused = tt;
    }
