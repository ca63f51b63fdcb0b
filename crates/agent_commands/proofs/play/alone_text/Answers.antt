-- The world of a run has come to its end, in the order of the plan's seed.
use Rattle.std.proofs.Common.{List, ℕ}
use Rattle.std.proofs.lemmas.Result.{IfOk-weaker}
use Rattle.bspl_types.specs.declared.event.Event.{Event}
use Rattle.stamped_history.specs.Explained.{AreLocal}
use Rattle.world_run.specs.World.{HasHistories, histories_of}
use Rattle.agent_commands.specs.PlayedText.{IsPlayedText, ReportsOn}
use Rattle.agent_commands.proofs.PlayAnswers.{finished_text}
use Rattle.agent_commands.proofs.play.alone_text.Goals as goal

pub returns : goal.returns
returns c =
    let job = c.args.job.now in
    let report = c.args.report in
    let desks = c.in_ok-world.world.desks in
    IfOk-weaker c.report_on.result (λ text. (run : List Event) → AreLocal job.protocol (histories_of desks) → HasHistories job.protocol desks run → ReportsOn report job.protocol job.script run text) (λ text. (threads : ℕ) → IsPlayedText report threads job text)
    (λ text reports threads. finished_text report threads job desks text c.in_ok-world.ensures.finished (λ none. c.in_ok-world.ensures.course) reports) c.report_on.ensures
