-- The job of agents whose text was read.
use Rattle.std.specs.Prelude.{◌≡◌, ℕ, List}
use Rattle.agent_scripts.specs.Job.{Job}
use Rattle.agent_scripts.specs.Refusal.{IsScriptText}
use Rattle.bspl_types.specs.declared.expanded.Expanded.{Expanded}

-- it is one on the protocol, and the text gives its script and its plan
pub record IsGivenJob (x : Expanded) (part : List ℕ) (job : Job) : Type 0 where
  pub protocol : job.protocol ≡ x
  pub given : IsScriptText x part job.script job.plan
