-- What a job leaves that was played over disks, some of which may have failed once.
use Rattle.std.specs.Prelude.{◌≡◌, ℕ, List, length}
use Rattle.adapter.specs.Desk.{DeskState}
use Rattle.agent_scripts.specs.Job.{Job}
use Rattle.role_journal.specs.Counts.{Counts}
use Rattle.world_run.specs.Finished.{AreEmptied, IsFinished}
use Rattle.world_run.specs.Settling.{HaveRunWhole}
use Rattle.world_run.specs.World.{AreDesksOf, WorldState, histories_of}
use Rattle.restart_run.specs.Disks.{AreWritten, faulty}
use Rattle.restart_run.specs.Steps.{AreFromSteps}

-- the histories are those of desks to which new ones settled, in the order that the plan's seed
-- gives
pub record IsOfCourse (job : Job) (desks : List DeskState) : Type 0 where
  pub played : List DeskState
  pub course : HaveRunWhole job played
  pub same : histories_of desks ≡ histories_of played

-- the world is finished, and no desk holds an envelope; its histories come from steps that may
-- happen, and each role's disk keeps its history; as many roles were restarted as there are disks
-- that failed
pub record IsRestarted {D : Type 0} (may_leave : D → List ℕ → Type 0) (counts : D → Counts)
    (job : Job) (world : WorldState) (restarts : ℕ) (disks : List D) : Type 0 where
  pub desks : AreDesksOf job.protocol world.desks
  pub finished : IsFinished job world.desks
  pub empty : AreEmptied world.desks
  pub course : IsOfCourse job world.desks
  pub from_steps : AreFromSteps job.protocol (histories_of world.desks)
  pub written : AreWritten may_leave counts (histories_of world.desks) disks
  pub counted : restarts ≡ length (faulty counts disks)
