-- There is one store fewer.
use Rattle.std.proofs.Common.{length}
use Rattle.restart_run.proofs.roles.+take_apart.Given as goal

abbrev pub decreases-take_apart : goal.decreases-take_apart
decreases-take_apart g l = length l.keepers.now
