-- The histories before the index have their waits.
use Rattle.std.proofs.Common.{take}
use Rattle.std.specs.List.{AllZip}
use Rattle.history_audit.specs.inner.Waits.{AreWaits}
use Rattle.history_audit.proofs.waits.all_waits.Given as goal

abbrev pub invariant-loop-history : goal.invariant-loop-history
invariant-loop-history l = AllZip (AreWaits l.x l.histories) (take l.history-index l.histories) l.waits
