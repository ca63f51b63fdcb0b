-- The report on the world, and the line on restarts after it.
use Rattle.agent_commands.proofs.RestartAnswers.{restarted_report}
use Rattle.agent_commands.proofs.restart_text.disks_text.Goals as goal

pub report_on-requires : goal.report_on-requires
report_on-requires c = c.in_ok-played.ensures.desks

pub returns : goal.returns
returns c =
    let played = c.in_ok-played.played in
    restarted_report c.args.job.now played.world played.restarts c.in_ok-text.text c.push_restarts.new.text c.in_ok-played.ensures c.in_ok-text.ensures c.in_ok-push_restarts.ensures
