-- The disks of the roles before the index.
use Rattle.std.proofs.Common.{◌≡◌, length}
use Rattle.restart_run.proofs.StopLemmas.{AreOfRoles}
use Rattle.restart_run.proofs.disks.stop_disks.Given as goal

abbrev pub invariant-loop-role : goal.invariant-loop-role
invariant-loop-role l = (length l.disks ≡ l.role) × AreOfRoles l.job l.stops l.fill l.disks
