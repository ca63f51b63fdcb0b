-- The reply on the formula that is read, or the line of the first reason against the input.
use Rattle.std.proofs.Common.{Some}
use Rattle.std.proofs.lemmas.Result.{IfOk-weaker}
use Rattle.program_frame.specs.declared.reply.Reply.{Reply}
use Rattle.tool_input.specs.declared.status.Status.{Status}
use Rattle.tool_input.specs.Rejection.{input_rejection}
use Rattle.formula_check.specs.Output.{CheckOutput, formula_part}
use Rattle.formula_check.specs.inner.Reply.{IsPartReply, IsRefusal}
use Rattle.formula_check.proofs.ReplyLemmas.{lacking_output, part_output, text_output}
use Rattle.formula_check.proofs.reply.check_reply.Goals as goal

pub returns-in-Err : goal.returns-in-Err
returns-in-Err c =
    let input = c.args.input.now in
    let lacks = c.in-Err.ensures.refused in
    let rejects = rw c.input_rejection.ensures at c.refused_for.ensures in
    λ args asks. IfOk-weaker c.refused_for.result (IsRefusal (Some (input_rejection c.in-Err.refusal))) (λ (reply : Reply Status). CheckOutput args input reply.text reply.status)
    (λ reply is. lacking_output args input c.in-Err.refusal lacks.0 reply asks c.requires lacks.1 lacks.2 is) rejects

pub returns-in-Ok-formula_of : goal.returns-in-Ok-formula_of
returns-in-Ok-formula_of c =
    let input = c.args.input.now in
    let part = c.in-Ok.part.now in
    let read = rw c.protocol_text.ensures at c.in-Ok-formula_of.ensures.ok in
    λ args asks. IfOk-weaker c.part_reply.result (IsPartReply (formula_part input) part) (λ (reply : Reply Status). CheckOutput args input reply.text reply.status)
    (λ reply is. part_output args input part c.in-Ok-formula_of.formula reply asks c.requires c.in-Ok.ensures.ok read is) (c.part_reply.ensures (formula_part input) read)

pub returns-in_ok-refused_line-in-Err-Line : goal.returns-in_ok-refused_line-in-Err-Line
returns-in_ok-refused_line-in-Err-Line c =
    let cause = rw (c.in-Err-Line.field-0-is, c.protocol_text.ensures) at c.in-Err-Line.ensures.err in
    let says = rw c.in-Err-Line.field-0-is at c.in_ok-refused_line-in-Err-Line.ensures in
    λ args asks. text_output args c.args.input.now c.in-Ok.part.now c.in-Err-Line.line _ asks c.requires c.in-Ok.ensures.ok cause.0 cause.1 says
