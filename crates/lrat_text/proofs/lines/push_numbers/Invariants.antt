-- What has been written of the numbers.
use Rattle.std.proofs.Common.{◌≡◌, ◌++◌, take}
use Rattle.lrat_text.specs.Text.{numbers_text}
use Rattle.lrat_text.proofs.lines.push_numbers.Given as goal

-- the numbers before this one
abbrev pub invariant-loop-number : goal.invariant-loop-number
invariant-loop-number l = l.text ≡ l.initial.text ++ numbers_text (take l.number-index l.numbers)
