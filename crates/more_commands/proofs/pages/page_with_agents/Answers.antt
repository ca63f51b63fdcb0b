-- The page with the section of the agents.
use Rattle.std.proofs.lemmas.Result.{IfOk-weaker}
use Rattle.program_frame.specs.declared.reply.Reply.{Reply}
use Rattle.tool_input.specs.declared.status.Status.{Status}
use Rattle.more_commands.specs.Given.{Agents}
use Rattle.more_commands.specs.PageAnswer.{IsPageAnswer}
use Rattle.more_commands.proofs.PageLemmas.{PageOf}
use Rattle.more_commands.proofs.pages.page_with_agents.Goals as goal

pub returns : goal.returns
returns c =
    let job = c.args.job.now in
    let given = Agents job.script job.plan in
    let section = c.in_ok-section.ensures in
    IfOk-weaker c.page_of.result (PageOf job.protocol c.in_ok-verdicts.verdicts c.args.rules.now.rules c.in_ok-section.section) (λ (reply : Reply Status). IsPageAnswer job.protocol c.args.rules.now.rules given reply.text reply.status)
    (λ reply made. made given section.shown section.shows section.text_is) (rw (c.as_slice.ensures, c.admitted-protocol.ensures) at c.page_of.ensures)
