-- The page without a section.
use Rattle.std.proofs.Common.{[], refl}
use Rattle.std.proofs.lemmas.Result.{IfOk-weaker}
use Rattle.program_frame.specs.declared.reply.Reply.{Reply}
use Rattle.tool_input.specs.declared.status.Status.{Status}
use Rattle.more_commands.specs.Given.{Nothing}
use Rattle.more_commands.specs.PageAnswer.{IsPageAnswer}
use Rattle.more_commands.proofs.PageLemmas.{PageOf}
use Rattle.more_commands.proofs.pages.page_answer.Goals as goal

pub returns : goal.returns
returns c =
    let x = c.args.protocol.now in
    IfOk-weaker c.page_of.result (PageOf x c.in_ok-verdicts.verdicts c.args.rules.now.rules []) (λ (reply : Reply Status). IsPageAnswer x c.args.rules.now.rules Nothing reply.text reply.status)
    (λ reply made. made Nothing [] refl refl) c.page_of.ensures
