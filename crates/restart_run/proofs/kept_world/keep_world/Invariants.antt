-- All entries with lower stamps are kept.
use Rattle.world_run.specs.World.{histories_of}
use Rattle.restart_run.specs.inner.Midway.{AreMidway}
use Rattle.restart_run.proofs.kept_world.keep_world.Given as goal

abbrev pub invariant-loop-stamp : goal.invariant-loop-stamp
invariant-loop-stamp g l = AreMidway g.D.Disk.seen g.D.Disk.may_leave g.D.Disk.counts l.job (histories_of l.world.desks) l.stamp 0 l.keepers
