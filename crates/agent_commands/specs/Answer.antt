-- What an answer says of the reply that it comes to.
use Rattle.std.specs.Prelude.{◌≡◌, ℕ, List, ◌++◌, ⊤}
use Rattle.agent_scripts.specs.Job.{Job}
use Rattle.enactment_model.specs.Safety.{SafeProtocol}
use Rattle.program_frame.specs.declared.reply.Reply.{Reply}
use Rattle.tool_input.specs.Answer.{RepliesWith}
use Rattle.tool_input.specs.declared.status.Status.{Status}
use Rattle.agent_commands.specs.declared.answer.Answer.{Answer}
use Rattle.agent_commands.specs.declared.answer.Answer.TheVariants as answer
use Rattle.agent_commands.specs.declared.play_mode.PlayMode.{PlayMode}
use Rattle.agent_commands.specs.declared.play_mode.PlayMode.TheVariants.{InThreads, OverDisks}
use Rattle.agent_commands.specs.PlayedText.{IsPlayedText}
use Rattle.agent_commands.specs.RestartedText.{IsRestartedText}

-- what is written of the agents of a job that play in the mode
abbrev pub IsModeText : PlayMode → Job → List ℕ → Type 0
IsModeText (InThreads threads report) job text = IsPlayedText report threads job text
IsModeText OverDisks job text = IsRestartedText job text

-- the text is that so far, and then that of the job's agents, who play in the mode; the status is
-- that so far
pub record PlaysOut (job : Job) (mode : PlayMode) (so_far : Reply Status) (out : List ℕ)
    (status : Status) : Type 0 where
  pub played : List ℕ
  pub is_played : IsModeText mode job played
  pub text : out ≡ so_far.text ++ played
  pub ends : status ≡ so_far.status

-- the text and the status are those of the reply, or complete what was answered so far
abbrev pub Completes : Answer → List ℕ → Status → Type 0
Completes (answer.Whole reply) out status = RepliesWith reply out status
Completes (answer.Play job mode so_far) out status = PlaysOut job mode so_far out status

-- agents play only a protocol that is safe
abbrev pub IsPlayable : Answer → Type 0
IsPlayable (answer.Whole reply) = ⊤
IsPlayable (answer.Play job mode so_far) = SafeProtocol job.protocol
