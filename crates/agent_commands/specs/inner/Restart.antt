-- A world that was played over disks.
use Rattle.std.specs.Prelude.{ℕ, ◌≤◌, length}
use Rattle.agent_scripts.specs.Job.{Job}
use Rattle.restart_run.specs.Restarted.{IsOfCourse}
use Rattle.world_run.specs.Finished.{IsFinished}
use Rattle.world_run.specs.World.{AreDesksOf, WorldState}

-- the world is a finished one of the job, its histories are those of a run by the plan's seed, and
-- no more roles were restarted than there are
pub record IsPlayedOver (job : Job) (world : WorldState) (restarts : ℕ) : Type 0 where
  pub desks : AreDesksOf job.protocol world.desks
  pub finished : IsFinished job world.desks
  pub course : IsOfCourse job world.desks
  pub few : restarts ≤ length job.protocol.roles
