-- What an input gives beside its protocol.
use Rattle.std.specs.Prelude.{ℕ, List, Some}
use Rattle.agent_scripts.specs.declared.plan.Plan.{Plan}
use Rattle.agent_scripts.specs.Refusal.{IsScriptText}
use Rattle.agent_scripts.specs.Script.{Script}
use Rattle.evidence_commands.specs.ReplayAnswer.{IsReplayRefused}
use Rattle.agent_commands.specs.RunAnswer.{IsRunRefused}
use Rattle.bspl_types.specs.declared.event.Event.{Event}
use Rattle.bspl_types.specs.declared.expanded.Expanded.{Expanded}
use Rattle.run_text.specs.RunText.{IsRunText}
use Rattle.tool_input.specs.declared.parts.Part.TheVariants as parts
use Rattle.tool_input.specs.declared.rejection.Rejection.{Rejection}
use Rattle.tool_input.specs.NeededPart.{HasPart}

-- nothing that a page shows, a run, or what the agents are to do
pub data Given : Type 0 where
  Nothing : Given
  Run : List Event → Given
  Agents : Script → Plan → Given

-- the part of the input is the text of the run
pub record IsGivenRun (x : Expanded) (input : List ℕ) (run : List Event) : Type 0 where
  pub part : List ℕ
  pub has_part : HasPart (Some parts.Run) input part
  pub read : IsRunText x part run

-- the part of the input is the text of the script and the plan
pub record AreGivenAgents (x : Expanded) (input : List ℕ) (script : Script) (plan : Plan)
    : Type 0 where
  pub part : List ℕ
  pub has_part : HasPart (Some parts.Agents) input part
  pub read : IsScriptText x part script plan

-- the first part line of the input begins no run and no agents
pub record HasNeither (input : List ℕ) : Type 0 where
  pub no_run : (part : List ℕ) → ¬ HasPart (Some parts.Run) input part
  pub no_agents : (part : List ℕ) → ¬ HasPart (Some parts.Agents) input part

-- the input gives this
abbrev pub Gives : Expanded → List ℕ → Given → Type 0
Gives x input Nothing = HasNeither input
Gives x input (Run run) = IsGivenRun x input run
Gives x input (Agents script plan) = AreGivenAgents x input script plan

-- the part of the input is refused as the text of a run, as by `replay`
pub record RefusesRun (x : Expanded) (input : List ℕ) (r : Rejection) : Type 0 where
  pub part : List ℕ
  pub has_part : HasPart (Some parts.Run) input part
  pub refused : IsReplayRefused x part r

-- the part of the input is refused as the text of agents, as by `run`
pub record RefusesAgents (x : Expanded) (input : List ℕ) (r : Rejection) : Type 0 where
  pub part : List ℕ
  pub has_part : HasPart (Some parts.Agents) input part
  pub refused : IsRunRefused x part r
