-- What one or more steps of agents ask of the desks of a world, and what they do to them.
use Rattle.std.specs.Prelude.{◌≡◌, ℕ, ◌<◌, Bool, true, false, List, length, Result, IfOk}
use Rattle.enactment_model.specs.Safety.{SafeProtocol}
use Rattle.adapter.specs.Desk.{DeskState}
use Rattle.agent_scripts.specs.Job.{Job}
use Rattle.world_run.specs.Course.{IsPlay, PlayState}
use Rattle.world_run.specs.inner.Idle.{AreIdle}
use Rattle.world_run.specs.inner.InProgress.{AreSound, AreWhole, Extend}
use Rattle.world_run.specs.inner.Work.{work_left}

-- the protocol is safe, the desks are sound, and all that was emitted arrives
pub record AreAtPlay (job : Job) (desks : List DeskState) : Type 0 where
  pub safe : SafeProtocol job.protocol
  pub sound : AreSound job desks
  pub whole : AreWhole job desks

-- the desks are at play, and one of them is the role's
pub record IsAtPlay (job : Job) (desks : List DeskState) (role : ℕ) : Type 0 where
  pub all : AreAtPlay job desks
  pub within : role < length desks

-- all that was emitted still arrives; if an agent acted, less is left to do, and if none did,
-- nothing changed
pub record IsProgress (job : Job) (old : List DeskState) (acted : Bool) (new : List DeskState)
    : Type 0 where
  pub whole : AreWhole job new
  pub less : acted ≡ true → work_left new < work_left old
  pub same : acted ≡ false → new ≡ old

-- a step made progress in its course, and if no agent acted, this much is idle
pub record IsStep (job : Job) (old : List DeskState) (acted : Bool) (new : List DeskState)
    (Idle Course : Type 0) : Type 0 where
  pub progress : IsProgress job old acted new
  pub idle : acted ≡ false → Idle
  pub course : Course

-- the desks stay sound and no history loses an entry; the step is made unless there is an error
pub record IsStepOr {E : Type 0} (job : Job) (old : List DeskState) (result : Result Bool E)
    (new : List DeskState) (Idle Course : Type 0) : Type 0 where
  pub extend : Extend job old new
  pub made : IfOk result (λ acted. IsStep job old acted new Idle Course)

-- all desks are idle after some rounds, and all that was emitted arrived
pub record PlaysToEnd (job : Job) (old new : PlayState) : Type 0 where
  pub whole : AreWhole job new.desks
  pub idle : AreIdle job new.desks
  pub course : IsPlay job old new
