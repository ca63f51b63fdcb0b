-- The reply that an answer comes to.
use Rattle.std.specs.Prelude.{◌≡◌, Result, Ok}
use Rattle.agent_commands.specs.declared.answer.Answer.{Answer}
use Rattle.agent_commands.specs.Answer.{Completes}
use Rattle.list_base.specs.declared.memory.NoMemory.{NoMemory}
use Rattle.program_frame.specs.declared.reply.Reply.{Reply}
use Rattle.tool_input.specs.declared.status.Status.{Status}

-- there is an answer, and the reply completes it
pub record IsCompleted (made : Result Answer NoMemory) (reply : Reply Status) : Type 0 where
  pub answer : Answer
  pub is_answer : made ≡ Ok answer
  pub completes : Completes answer reply.text reply.status
