-- The world of threads has come to its end.
use Rattle.std.proofs.Common.{List, arith}
use Rattle.std.proofs.lemmas.Result.{IfOk-weaker}
use Rattle.bspl_types.specs.declared.event.Event.{Event}
use Rattle.stamped_history.specs.Explained.{AreLocal}
use Rattle.world_run.specs.World.{HasHistories, histories_of}
use Rattle.agent_commands.specs.PlayedText.{IsPlayedText, ReportsOn}
use Rattle.agent_commands.proofs.PlayAnswers.{desks_of, finished_text}
use Rattle.agent_commands.proofs.play.threads_text.Goals as goal

pub report_on-requires : goal.report_on-requires
report_on-requires g c = desks_of c.args.job.now c.in_ok-world.world.desks c.in_ok-world.ensures.settled.continues.kept

pub returns : goal.returns
returns g c =
    let job = c.args.job.now in
    let report = c.args.report in
    let desks = c.in_ok-world.world.desks in
    IfOk-weaker c.report_on.result (λ text. (run : List Event) → AreLocal job.protocol (histories_of desks) → HasHistories job.protocol desks run → ReportsOn report job.protocol job.script run text) (IsPlayedText report c.args.threads job)
    (λ text reports. finished_text report c.args.threads job desks text c.in_ok-world.ensures.finished (λ none. absurd (omega arith)) reports) c.report_on.ensures
