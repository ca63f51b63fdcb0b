-- What was found among the lines so far.
use Rattle.std.proofs.Common.{◌≡◌, ◌+◌, ◌≤◌, length, take}
use Rattle.std.specs.Option.{option_map, option_or}
use Rattle.tool_input.specs.Lines.{lines}
use Rattle.answer_words.specs.Exclusion.{last_excluding}
use Rattle.answer_words.specs.Place.{spot_of}
use Rattle.answer_words.proofs.exclusion.last_excluding.Given as goal

-- the last one is that of the lines that are left, or what was found
abbrev pub invariant-lines : goal.invariant-lines
invariant-lines l =
    (option_or (last_excluding l.other l.line (take l.left (lines l.rest))) (option_map spot_of l.found) ≡
    last_excluding l.other l.first (take l.count (lines l.text))) ×
    (l.line + length l.rest ≤ l.first + length l.text)

-- fewer lines are left at each turn
abbrev pub decreases-lines : goal.decreases-lines
decreases-lines l = l.left
