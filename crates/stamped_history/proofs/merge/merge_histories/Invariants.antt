-- What the loop keeps, and why it ends.
use Rattle.std.proofs.Common.{map}
use Rattle.stamped_history.proofs.CursorLemmas.{entries_left, IsMerging}
use Rattle.stamped_history.proofs.merge.merge_histories.Given as goal

-- the run has the events of the entries before the cursors
abbrev pub invariant-loop-first : goal.invariant-loop-first
invariant-loop-first g l = IsMerging (map g.H.History.entries l.histories) l.cursors l.run

-- fewer entries come after them each time
abbrev pub decreases-loop-first : goal.decreases-loop-first
decreases-loop-first g l = entries_left (map g.H.History.entries l.histories) l.cursors
