-- The lines that were passed over come before the one that is wanted.
use Rattle.std.proofs.Common.{◌≡◌, ◌+◌, ◌≤◌, length}
use Rattle.tool_input.specs.Lines.{lines}
use Rattle.answer_words.specs.Place.{line_in}
use Rattle.answer_words.proofs.place.line_of.Given as goal

-- the place is that of the line of the rest
abbrev pub invariant-lines : goal.invariant-lines
invariant-lines l =
    (line_in l.line (lines l.rest) l.left ≡ line_in l.first (lines l.text) l.n) ×
    (l.line + length l.rest ≤ l.first + length l.text)

-- the rest is shorter at each turn
abbrev pub decreases-lines : goal.decreases-lines
decreases-lines l = length l.rest
