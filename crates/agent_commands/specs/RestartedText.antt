-- What is written of agents that play over disks.
use Rattle.std.specs.Prelude.{◌≡◌, ◌≤◌, ℕ, List, ◌++◌, length}
use Rattle.agent_scripts.specs.Job.{Job}
use Rattle.report.specs.Summary.{count_line}
use Rattle.agent_commands.specs.declared.wording.TheConstants.{RESTARTS}
use Rattle.agent_commands.specs.declared.world_report.WorldReport.TheVariants.{Table}
use Rattle.agent_commands.specs.PlayedText.{IsPlayedText}

-- the line says how many roles were restarted, each of them once
pub record SaysRestarts (roles : ℕ) (text : List ℕ) : Type 0 where
  pub restarts : ℕ
  pub few : restarts ≤ roles
  pub text_is : text ≡ count_line (RESTARTS.now) restarts

-- the report on a world that the agents played without threads, and how many were restarted
pub record IsRestartedText (job : Job) (text : List ℕ) : Type 0 where
  pub played : List ℕ
  pub is_played : IsPlayedText Table 0 job played
  pub last : List ℕ
  pub restarts : SaysRestarts (length job.protocol.roles) last
  pub text_is : text ≡ played ++ last
