-- What the loop keeps: the cursors are at the start of the histories before the index.
use Rattle.std.proofs.Common.{◌≡◌, map, take}
use Rattle.stamped_history.specs.inner.Cursors.{cursor_at}
use Rattle.stamped_history.proofs.cursor.first_cursors.Given as goal

abbrev pub invariant-loop-history : goal.invariant-loop-history
invariant-loop-history g l = l.cursors ≡ map (λ h. cursor_at (g.H.History.entries h) 0) (take l.history-index l.histories)
