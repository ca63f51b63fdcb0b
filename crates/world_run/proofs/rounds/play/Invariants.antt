-- The desks stay sound and whole, and each round that goes on leaves less to do.
use Rattle.world_run.specs.Course.{IsPlay, state}
use Rattle.world_run.specs.inner.InProgress.{AreWhole, Extend}
use Rattle.world_run.specs.inner.Work.{work_left}
use Rattle.world_run.proofs.rounds.play.Given as goal

abbrev pub invariant-rounds : goal.invariant-rounds
invariant-rounds l = record { extend : Extend l.job l.fn.desks l.desks; whole : AreWhole l.job l.desks; course : IsPlay l.job (state l.fn.desks l.fn.rng) (state l.desks l.rng) }

abbrev pub decreases-rounds : goal.decreases-rounds
decreases-rounds l = work_left l.desks
