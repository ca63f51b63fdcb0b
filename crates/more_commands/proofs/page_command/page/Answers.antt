-- The page is that of the rules in the text, and of what is given beside them.
use Rattle.std.proofs.lemmas.Result.{IfErr-weaker, IfOk-weaker}
use Rattle.program_frame.specs.declared.reply.Reply.{Reply}
use Rattle.tool_input.specs.declared.status.Status.{Status}
use Rattle.tool_input.specs.Error.{RejectsFor}
use Rattle.more_commands.specs.PageAnswer.{IsPageRefused, RefusesBeside, ShowsInput}
use Rattle.more_commands.specs.inner.Beside.{ShowsBeside}
use Rattle.more_commands.proofs.PageLemmas.{input_shown, refused_beside, refused_for_rules}
use Rattle.more_commands.proofs.page_command.page.Goals as goal

pub returns-in-Ok-clause-ok : goal.returns-in-Ok-clause-ok
returns-in-Ok-clause-ok c =
    let x = c.args.protocol in
    let input = c.args.input.now in
    let rules = c.in-Ok.rules.rules in
    IfOk-weaker c.page_beside.result (λ (reply : Reply Status). ShowsBeside x rules input reply.text reply.status) (λ (reply : Reply Status). ShowsInput x input reply.text reply.status)
    (λ reply. input_shown x input rules reply c.in-Ok.ensures.ok.of_text) c.page_beside.ensures.ok

pub returns-in-Ok-clause-refused : goal.returns-in-Ok-clause-refused
returns-in-Ok-clause-refused c =
    let x = c.args.protocol in
    let input = c.args.input.now in
    IfErr-weaker c.page_beside.result (RejectsFor (RefusesBeside x input)) (RejectsFor (IsPageRefused x input)) (refused_beside x input c.in-Ok.rules c.in-Ok.ensures.ok) c.page_beside.ensures.refused

pub returns-in-Err-clause-refused : goal.returns-in-Err-clause-refused
returns-in-Err-clause-refused c = refused_for_rules c.args.protocol c.args.input.now c.in-Err.error c.in-Err.ensures.refused
