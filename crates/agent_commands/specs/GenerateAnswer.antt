-- What `generate` answers on a protocol of its own and the text of that protocol's agents.
use Rattle.std.specs.Prelude.{◌≡◌, ℕ, List, ◌++◌}
use Rattle.agent_scripts.specs.declared.plan.Plan.{Plan}
use Rattle.agent_scripts.specs.Job.{Job}
use Rattle.agent_scripts.specs.Refusal.{IsScriptText}
use Rattle.agent_scripts.specs.Script.{Script}
use Rattle.bspl_types.specs.declared.expanded.Expanded.{Expanded}
use Rattle.report.specs.ExitStatus.{verdict_status}
use Rattle.report.specs.Summary.{generated_text}
use Rattle.verdict.specs.declared.outcome.Verdicts.{Verdicts}
use Rattle.verdict.specs.Verdicts.{AreRightAnswers}
use Rattle.tool_input.specs.declared.need.Need.TheVariants.{Part}
use Rattle.tool_input.specs.Rules.{CommandRules}
use Rattle.tool_input.specs.declared.parts.Part.TheVariants as part
use Rattle.tool_input.specs.declared.status.Status.{Status}
use Rattle.agent_commands.specs.declared.world_report.WorldReport.TheVariants.{Summary}
use Rattle.agent_commands.specs.PlayedText.{AgentsText, IsPlayedText}
use Rattle.agent_commands.specs.RunAnswer.{IsRunRefused}

-- the output sums up right verdicts on the job's protocol, and then what its agents played; the
-- status is that of the verdicts
pub record IsSummedUp (stages budget threads : ℕ) (job : Job) (out : List ℕ)
    (status : Status) : Type 0 where
  pub verdicts : Verdicts
  pub right : AreRightAnswers job.protocol budget verdicts
  pub ends : status ≡ verdict_status verdicts.safety verdicts.liveness
  pub agents_text : List ℕ
  pub played : AgentsText (IsPlayedText Summary threads job) verdicts.safety agents_text
  pub text : out ≡ generated_text stages job.protocol verdicts ++ agents_text

-- the part is the text of the agents of a job, and the output sums it up
pub record IsGenerateAnswer (stages budget threads : ℕ) (x : Expanded) (part out : List ℕ)
    (status : Status) : Type 0 where
  pub script : Script
  pub plan : Plan
  pub given : IsScriptText x part script plan
  pub answer : IsSummedUp stages budget threads
      (record { protocol = x; script = script; plan = plan }) out status

-- it needs agents, and refuses their text as `run` does; the search and the threads may go
-- otherwise
abbrev pub generate_rules : ℕ → ℕ → ℕ → CommandRules
generate_rules stages budget threads = record {
  needs = Part part.Agents;
  answers = IsGenerateAnswer stages budget threads;
  refuses = IsRunRefused;
  is_determined = ⊥;
}
