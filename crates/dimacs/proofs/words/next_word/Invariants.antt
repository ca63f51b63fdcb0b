-- What is kept while empty parts are passed.
use Rattle.std.proofs.Common.{◌≡◌, length}
use Rattle.std.specs.Option.{option_copied}
use Rattle.dimacs.specs.inner.Reading.{blank_parts, words_left}
use Rattle.dimacs.proofs.words.next_word.Given as goal

-- what was passed has no word
abbrev pub invariant-loop-left : goal.invariant-loop-left
invariant-loop-left l = words_left (option_copied l.left) ≡ words_left (option_copied l.fn.fields)

-- the parts that are left
abbrev pub decreases-loop-left : goal.decreases-loop-left
decreases-loop-left l = length (blank_parts (option_copied l.left))
