-- What the events under the key before the position make known, and that they meet the demand.
use Rattle.std.proofs.Common.{◌-◌, length}
use Rattle.run_index.proofs.WalkLemmas.{HasPassed}
use Rattle.run_index.proofs.failures.failure_under.Given as goal

abbrev pub invariant-loop-position : goal.invariant-loop-position
invariant-loop-position l = HasPassed l.x l.demand l.index l.key l.position l.facts

abbrev pub decreases-loop-position : goal.decreases-loop-position
decreases-loop-position l = length l.index - l.position
