-- The clauses before `examined` are settled.
use Rattle.std.proofs.Common.{◌-◌, length}
use Rattle.sat_trail.specs.inner.Propagation.{HasWatches}
use Rattle.sat_trail.proofs.GrowthLemmas.{Runs}
use Rattle.sat_trail.proofs.propagation.examine_new.Given as goal

abbrev pub invariant-loop-examined : goal.invariant-loop-examined
invariant-loop-examined l = Runs l.store l.level l.fn.set l.set × HasWatches l.store l.lists.cells.items l.set l.level l.head l.examined

abbrev pub decreases-loop-examined : goal.decreases-loop-examined
decreases-loop-examined l = length l.store - l.examined
