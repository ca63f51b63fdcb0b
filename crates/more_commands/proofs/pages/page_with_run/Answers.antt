-- The page with the section of the run.
use Rattle.std.proofs.lemmas.Result.{IfOk-weaker}
use Rattle.program_frame.specs.declared.reply.Reply.{Reply}
use Rattle.tool_input.specs.declared.status.Status.{Status}
use Rattle.more_commands.specs.Given.{Run}
use Rattle.more_commands.specs.PageAnswer.{IsPageAnswer}
use Rattle.more_commands.proofs.PageLemmas.{PageOf}
use Rattle.more_commands.proofs.pages.page_with_run.Goals as goal

pub returns : goal.returns
returns c =
    let x = c.args.protocol.now in
    let section = c.in_ok-section.ensures in
    IfOk-weaker c.page_of.result (PageOf x c.in_ok-verdicts.verdicts c.args.rules.now.rules c.in_ok-section.section) (λ (reply : Reply Status). IsPageAnswer x c.args.rules.now.rules (Run c.args.run.now) reply.text reply.status)
    (λ reply made. made (Run c.args.run.now) section.shown section.shows section.text_is) (rw c.as_slice.ensures at c.page_of.ensures)
