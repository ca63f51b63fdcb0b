-- The events from the position on have their places in the index.
use Rattle.run_index.specs.inner.Chain.{HasFirstsFrom, IsIndexFrom}
use Rattle.run_index.proofs.index.RunIndex.of.Given as goal

abbrev pub invariant-loop-position : goal.invariant-loop-position
invariant-loop-position l = IsIndexFrom l.run l.position l.firsts l.following × HasFirstsFrom l.run l.position l.acts

abbrev pub decreases-loop-position : goal.decreases-loop-position
decreases-loop-position l = l.position
