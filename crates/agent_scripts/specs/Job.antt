-- What a job is.
use Rattle.bspl_types.specs.declared.expanded.Expanded.{Expanded}
use Rattle.agent_scripts.specs.declared.plan.Plan.{Plan}
use Rattle.agent_scripts.specs.Script.{Script}

-- a protocol, a script for its roles, and what is lost and repeated
pub record Job : Type 0 where
  pub protocol : Expanded
  pub script : Script
  pub plan : Plan
