-- The entries with the stamp of the roles before are kept.
use Rattle.world_run.specs.World.{histories_of}
use Rattle.restart_run.specs.inner.Midway.{AreMidway}
use Rattle.restart_run.proofs.kept_world.keep_stamp.Given as goal

abbrev pub invariant-loop-role : goal.invariant-loop-role
invariant-loop-role g l = AreMidway g.D.Disk.seen g.D.Disk.may_leave g.D.Disk.counts l.job (histories_of l.world.desks) l.stamp l.role l.keepers
