-- The reply is on the formula of the log's kind.
use Rattle.std.proofs.Common.{◌≡◌, ℕ, List}
use Rattle.std.proofs.lemmas.Result.{IfOk-weaker}
use Rattle.program_frame.specs.declared.reply.Reply.{Reply}
use Rattle.tool_input.specs.declared.status.Status.{Status}
use Rattle.more_commands.specs.LratAnswer.{IsProofAnswer}
use Rattle.more_commands.specs.inner.Proof.{IsProofReply}
use Rattle.more_commands.proofs.LratLemmas.{kind_proof}
use Rattle.more_commands.proofs.lrat_command.log_answer.Goals as goal

pub returns : goal.returns
returns c =
    let x = c.args.protocol.now in
    let kind = c.args.kind in
    let log = c.args.log.now in
    let formula = c.in_ok-formula.formula in
    IfOk-weaker c.proof_reply.result (λ (reply : Reply Status). IsProofReply formula log reply.text reply.status) (λ (reply : Reply Status). IsProofAnswer x kind log reply.text reply.status)
    (λ reply is. kind_proof x kind formula log reply.text reply.status (rw c.property_of.ensures at c.in_ok-formula.ensures.exact) is) c.proof_reply.ensures
