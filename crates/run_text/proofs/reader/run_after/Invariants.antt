-- What has been read of the lines.
use Rattle.std.proofs.Common.{length}
use Rattle.run_text.proofs.FirstBad.{EventsRead}
use Rattle.run_text.proofs.reader.run_after.Given as goal

abbrev pub invariant-loop-after : goal.invariant-loop-after
invariant-loop-after l = EventsRead l.x l.text l.rest l.run l.number

-- the bytes that are left
abbrev pub decreases-loop-after : goal.decreases-loop-after
decreases-loop-after l = length l.rest
