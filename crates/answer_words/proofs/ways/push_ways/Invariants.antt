-- What was written so far.
use Rattle.std.proofs.Common.{◌≡◌, ◌++◌, take}
use Rattle.answer_words.specs.Ways.{ways_text}
use Rattle.answer_words.proofs.ways.push_ways.Given as goal

-- the lines of the protocols so far
abbrev pub invariant-loop-top : goal.invariant-loop-top
invariant-loop-top l =
    l.text ≡ l.fn.text ++ ways_text l.input l.protocols l.name (take l.top-index l.protocols)
