-- Each call has one parameter less.
use Rattle.std.proofs.Common.{length}
use Rattle.run_index.proofs.permission.+are_known.Given as goal

abbrev pub decreases-are_known : goal.decreases-are_known
decreases-are_known l = length l.carried.now
