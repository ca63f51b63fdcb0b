-- What is written of agents who play if their protocol is found safe.
use Rattle.std.specs.Prelude.{◌≡◌, ℕ, List, ◌++◌}
use Rattle.agent_scripts.specs.Job.{Job}
use Rattle.program_frame.specs.declared.reply.Reply.{Reply}
use Rattle.refutation_log.specs.declared.refutation.Log.{Log}
use Rattle.tool_input.specs.declared.status.Status.{Status}
use Rattle.verdict.specs.declared.outcome.Safety.{Safety}
use Rattle.verdict.specs.declared.outcome.Safety.TheVariants.{Safe}
use Rattle.agent_commands.specs.declared.play_mode.PlayMode.{PlayMode}
use Rattle.agent_commands.specs.Answer.{IsModeText}
use Rattle.agent_commands.specs.PlayedText.{AgentsText}

-- the protocol is found safe
abbrev pub IsFoundSafe : Safety → Type 0
IsFoundSafe safety = (log : Log) × (safety ≡ Safe log)

-- after the text so far comes that of the agents, by what was found of the protocol's safety
pub record PlaysIfSafe (job : Job) (mode : PlayMode) (safety : Safety) (so_far : Reply Status)
    (out : List ℕ) (status : Status) : Type 0 where
  pub agents_text : List ℕ
  pub played : AgentsText (IsModeText mode job) safety agents_text
  pub text : out ≡ so_far.text ++ agents_text
  pub ends : status ≡ so_far.status
