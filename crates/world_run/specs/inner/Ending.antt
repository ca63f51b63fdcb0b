-- When desks are at their end.
use Rattle.std.specs.Prelude.{List}
use Rattle.adapter.specs.Desk.{DeskState}
use Rattle.agent_scripts.specs.Job.{Job}
use Rattle.world_run.specs.Finished.{AreEmptied, IsFinished}
use Rattle.world_run.specs.inner.Idle.{AreIdle}
use Rattle.world_run.specs.inner.InProgress.{AreSound, AreWhole}

-- the desks are finished and hold no envelope
pub record AreEnded (job : Job) (desks : List DeskState) : Type 0 where
  pub finished : IsFinished job desks
  pub empty : AreEmptied desks

-- so are sound desks at which all that is emitted arrives, and that are idle
abbrev pub IdleDesksFinish : Job → Type 0
IdleDesksFinish job = (desks : List DeskState) →
    AreSound job desks → AreWhole job desks → AreIdle job desks → AreEnded job desks
