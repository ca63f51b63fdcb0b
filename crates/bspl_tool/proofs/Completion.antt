-- The reply that a right answer comes to is right.
use Rattle.std.proofs.Common.{ℕ, List, subst}
use Rattle.std.specs.Prelude.{Result, IfOk}
use Rattle.std.proofs.lemmas.Result.{IfOk-weaker}
use Rattle.agent_commands.specs.declared.answer.Answer.{Answer}
use Rattle.agent_commands.specs.Answer.{Completes}
use Rattle.list_base.specs.declared.memory.NoMemory.{NoMemory}
use Rattle.program_frame.specs.declared.reply.Reply.{Reply}
use Rattle.tool_input.specs.Answer.{IsRightAnswer}
use Rattle.tool_input.specs.declared.status.Status.{Status}
use Rattle.bspl_tool.specs.inner.Completed.{IsCompleted}

-- whatever is right of the answer is right of the reply
pub completed_rightly : (right : List ℕ → Status → Type 0) (made : Result Answer NoMemory) (done : Result (Reply Status) NoMemory) → IfOk made (IsRightAnswer Completes right) → IfOk done (λ reply. IsCompleted made reply) → IfOk done (λ reply. right reply.text reply.status)
completed_rightly right made done is completes =
    IfOk-weaker done (λ reply. IsCompleted made reply) (λ (reply : Reply Status). right reply.text reply.status)
    (λ reply c. subst (λ (m : Result Answer NoMemory). IfOk m (IsRightAnswer Completes right)) c.is_answer is reply.text reply.status c.completes)
    completes
