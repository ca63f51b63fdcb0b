-- What has been counted of the store's events.
use Rattle.std.proofs.Common.{take}
use Rattle.local_store.specs.State.{acts_of}
use Rattle.report.specs.inner.Counts.{GrowBy}
use Rattle.report.proofs.world_counts.add_store.Given as goal

-- the events so far are counted
abbrev pub invariant-loop-i : goal.invariant-loop-i
invariant-loop-i l = GrowBy (take l.i (acts_of l.store)) l.fn.counts l.counts
