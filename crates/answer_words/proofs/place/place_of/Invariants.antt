-- The lines that were passed over end before the offset.
use Rattle.std.proofs.Common.{◌≡◌, ◌+◌, ◌≤◌, length, min}
use Rattle.tool_input.specs.Lines.{lines}
use Rattle.answer_words.specs.Place.{place_of, spot_in}
use Rattle.answer_words.proofs.place.place_of.Given as goal

-- the place is that of what is left of the offset in the rest, and a line has at least one byte
abbrev pub invariant-lines : goal.invariant-lines
invariant-lines l =
    (spot_in l.line (lines l.rest) l.left ≡ place_of l.text l.offset) ×
    (l.left ≤ length l.rest) × (l.line + l.left ≤ min l.offset (length l.text) + 1)

-- the rest is shorter at each turn
abbrev pub decreases-lines : goal.decreases-lines
decreases-lines l = length l.rest
