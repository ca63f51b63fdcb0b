-- What is kept while lines without words are passed.
use Rattle.std.proofs.Common.{◌≡◌, ◌+◌, length}
use Rattle.std.specs.Option.{option_copied}
use Rattle.dimacs.specs.Dimacs.{from_first_words, text_lines}
use Rattle.dimacs.specs.inner.Reading.{lines_in}
use Rattle.dimacs.proofs.header.start_of.Given as goal

-- the lines that were passed have no words, and were counted
abbrev pub invariant-loop-left : goal.invariant-loop-left
invariant-loop-left l = record {
  passed : from_first_words (lines_in (option_copied l.left)) ≡ from_first_words (text_lines l.fn.text);
  counted : l.line + length (lines_in (option_copied l.left)) ≡ length (text_lines l.fn.text);
}

-- the lines that are left
abbrev pub decreases-loop-left : goal.decreases-loop-left
decreases-loop-left l = length (lines_in (option_copied l.left))
