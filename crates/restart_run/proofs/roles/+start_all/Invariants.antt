-- There is one disk fewer.
use Rattle.std.proofs.Common.{length}
use Rattle.restart_run.proofs.roles.+start_all.Given as goal

abbrev pub decreases-start_all : goal.decreases-start_all
decreases-start_all g l = length l.disks.now
