-- The lines that were passed over are none of them part lines.
use Rattle.std.proofs.Common.{length}
use Rattle.tool_input.proofs.PartLines.{HasPassed}
use Rattle.tool_input.proofs.parts.protocol_text.Given as goal

-- the next line starts behind as many lines as were yielded, none of which is a part line
abbrev pub invariant-loop-line : goal.invariant-loop-line
invariant-loop-line l =
    (goal.iterator-loop-line).can_next l.line-iterator ×
    (goal.iterator-loop-line).is_finite l.line-iterator ×
    HasPassed l.input (length l.yielded) l.start
