-- The reply is the answer on the log that was read.
use Rattle.std.proofs.Common.{inl}
use Rattle.std.proofs.lemmas.Result.{IfOk-weaker}
use Rattle.program_frame.specs.declared.reply.Reply.{Reply}
use Rattle.tool_input.specs.declared.status.Status.{Status}
use Rattle.formula_check.specs.Answer.{IsLogAnswer}
use Rattle.formula_check.specs.inner.Reply.{IsPartReply}
use Rattle.formula_check.proofs.reply.part_reply.Goals as goal

pub returns-in-Ok : goal.returns-in-Ok
returns-in-Ok c =
    λ text read. IfOk-weaker c.log_answer.result (λ (reply : Reply Status). IsLogAnswer text c.in-Ok.log reply.text reply.status) (IsPartReply text c.args.part.now)
    (λ reply is. inl (record { kind = c.in-Ok.field-0-0; log = c.in-Ok.log; read = c.in-Ok.ensures.ok; answer = is })) (c.log_answer.ensures text read)
