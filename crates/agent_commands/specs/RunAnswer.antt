-- What `run` answers on an admitted protocol and the text of its agents.
use Rattle.std.specs.Prelude.{◌≡◌, ℕ, Bool, List, ◌++◌, Some}
use Rattle.agent_scripts.specs.declared.plan.Plan.{Plan}
use Rattle.agent_scripts.specs.declared.refusal.ScriptRefusal.{ScriptRefusal}
use Rattle.agent_scripts.specs.Job.{Job}
use Rattle.agent_scripts.specs.Refusal.{IsRefusedScript, IsScriptText}
use Rattle.agent_scripts.specs.Script.{Script}
use Rattle.bspl_types.specs.declared.expanded.Expanded.{Expanded}
use Rattle.rejections.specs.PartRejection.{script_rejection}
use Rattle.report.specs.ExitStatus.{verdict_status}
use Rattle.verdict.specs.declared.outcome.Verdicts.{Verdicts}
use Rattle.tool_input.specs.declared.need.Need.TheVariants.{Part}
use Rattle.tool_input.specs.Rules.{CommandRules}
use Rattle.tool_input.specs.declared.parts.Part.TheVariants as part
use Rattle.tool_input.specs.declared.rejection.Rejection.{Rejection}
use Rattle.tool_input.specs.declared.status.Status.{Status}
use Rattle.agent_commands.specs.declared.world_report.WorldReport.TheVariants.{Table}
use Rattle.agent_commands.specs.PlayedText.{AgentsText, IsPlayedText}
use Rattle.verdict_commands.specs.VerifyAnswer.{IsVerdictAnswer}

-- the output is the text of right verdicts on the job's protocol and then that of its agents; the
-- status is that of the verdicts
pub record IsJobAnswer (brief : Bool) (budget threads : ℕ) (job : Job) (out : List ℕ)
    (status : Status) : Type 0 where
  pub verdicts : Verdicts
  pub verdict_text : List ℕ
  pub verified : IsVerdictAnswer brief budget job.protocol verdicts verdict_text
  pub ends : status ≡ verdict_status verdicts.safety verdicts.liveness
  pub agents_text : List ℕ
  pub played : AgentsText (IsPlayedText Table threads job) verdicts.safety agents_text
  pub text : out ≡ verdict_text ++ agents_text

-- the part is the text of the agents of a job, and the output answers it
pub record IsRunAnswer (brief : Bool) (budget threads : ℕ) (x : Expanded) (part out : List ℕ)
    (status : Status) : Type 0 where
  pub script : Script
  pub plan : Plan
  pub given : IsScriptText x part script plan
  pub answer : IsJobAnswer brief budget threads
      (record { protocol = x; script = script; plan = plan }) out status

-- the part is the text of no agents, and has a first bad line
pub record IsRunRefused (x : Expanded) (part : List ℕ) (rejection : Rejection) : Type 0 where
  pub refusal : ScriptRefusal
  pub refused : IsRefusedScript x part refusal
  pub rejection_is : script_rejection refusal ≡ Some rejection

-- it needs agents; its evidence may be another, and so may be the order in which threads play
abbrev pub run_rules : Bool → ℕ → ℕ → CommandRules
run_rules brief budget threads = record {
  needs = Part part.Agents;
  answers = IsRunAnswer brief budget threads;
  refuses = IsRunRefused;
  is_determined = ⊥;
}
