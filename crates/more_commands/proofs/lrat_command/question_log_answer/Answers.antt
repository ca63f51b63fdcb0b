-- The reply is on the formula of the question.
use Rattle.std.proofs.Common.{◌≡◌, ℕ, List}
use Rattle.std.proofs.lemmas.Result.{IfOk-weaker}
use Rattle.program_frame.specs.declared.reply.Reply.{Reply}
use Rattle.tool_input.specs.declared.status.Status.{Status}
use Rattle.more_commands.specs.LratAnswer.{IsQuestionProofAnswer}
use Rattle.more_commands.specs.inner.Proof.{IsProofReply}
use Rattle.more_commands.proofs.LratLemmas.{question_proof}
use Rattle.more_commands.proofs.lrat_command.question_log_answer.Goals as goal

pub returns : goal.returns
returns c =
    let x = c.args.protocol.now in
    let q = c.args.question.now in
    let log = c.args.log.now in
    let formula = c.in_ok-formula.formula in
    IfOk-weaker c.proof_reply.result (λ (reply : Reply Status). IsProofReply formula log reply.text reply.status) (λ (reply : Reply Status). IsQuestionProofAnswer x q log reply.text reply.status)
    (λ reply is. question_proof x q formula log reply.text reply.status c.in_ok-formula.ensures.exact is) c.proof_reply.ensures
