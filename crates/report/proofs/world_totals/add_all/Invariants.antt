-- What has been counted of the store's events.
use Rattle.std.proofs.Common.{take}
use Rattle.local_store.specs.State.{acts_of}
use Rattle.report.specs.inner.Totals.{GrowsBy}
use Rattle.report.proofs.world_totals.add_all.Given as goal

-- the events so far are counted
abbrev pub invariant-loop-i : goal.invariant-loop-i
invariant-loop-i l = GrowsBy (take l.i (acts_of l.store)) l.fn.total l.total
