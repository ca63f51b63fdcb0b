-- The entries before `head` were passed.
use Rattle.std.proofs.Common.{◌-◌, length}
use Rattle.sat_trail.specs.inner.Propagation.{HasWatches}
use Rattle.sat_trail.specs.inner.Watches.{AreLinked}
use Rattle.sat_trail.proofs.GrowthLemmas.{Runs}
use Rattle.sat_trail.proofs.propagation.propagate_entries.Given as goal

abbrev pub invariant-loop-head : goal.invariant-loop-head
invariant-loop-head l = record {
  runs : Runs l.store l.level l.fn.set l.set;
  watched : HasWatches l.store l.lists.cells.items l.set l.level l.head (length l.store);
  linked : AreLinked l.fn.set.vars l.lists.cells.items l.lists.heads.items;
}

abbrev pub decreases-loop-head : goal.decreases-loop-head
decreases-loop-head l = l.set.vars - l.head
