-- Each call has one parameter less.
use Rattle.std.proofs.Common.{length}
use Rattle.run_index.proofs.facts.Facts.+learn_pairs.Given as goal

abbrev pub decreases-learn_pairs : goal.decreases-learn_pairs
decreases-learn_pairs l = length l.carried.now
