-- The events before the index have their waits.
use Rattle.std.proofs.Common.{take}
use Rattle.std.specs.List.{AllZip}
use Rattle.history_audit.specs.inner.Waits.{IsWait}
use Rattle.history_audit.proofs.waits.waits_of.Given as goal

abbrev pub invariant-loop-event : goal.invariant-loop-event
invariant-loop-event l = AllZip (IsWait l.x l.indices) (take l.event-index l.history) l.waits
