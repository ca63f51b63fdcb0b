-- The lines before the rest begin no part.
use Rattle.std.proofs.Common.{◌≡◌, ◌≤◌, length}
use Rattle.tool_input.specs.Parts.{first_part}
use Rattle.tool_input.proofs.parts.first_part.Given as goal

-- the first part of the rest is that of the input, and the rest is no longer
abbrev pub invariant-loop-part : goal.invariant-loop-part
invariant-loop-part l = (first_part l.input ≡ first_part l.rest) × (length l.rest ≤ length l.input)

-- the rest is shorter at each turn
abbrev pub decreases-loop-part : goal.decreases-loop-part
decreases-loop-part l = length l.rest
