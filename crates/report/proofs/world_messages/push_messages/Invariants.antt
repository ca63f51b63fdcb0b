-- What has been written of the messages.
use Rattle.std.proofs.Common.{◌≡◌, ◌++◌}
use Rattle.report.specs.inner.Counts.{counted_lines}
use Rattle.report.proofs.world_messages.push_messages.Given as goal

-- the lines of the messages so far are written
abbrev pub invariant-loop-message : goal.invariant-loop-message
invariant-loop-message l = l.text ≡ l.fn.text ++ counted_lines l.x l.counts l.message
