-- What was written so far.
use Rattle.std.proofs.Common.{◌≡◌, ◌++◌, take}
use Rattle.std.specs.List.{flat_map}
use Rattle.answer_words.specs.Ways.{by_reference}
use Rattle.answer_words.proofs.ways.push_references.Given as goal

-- a line on each reference so far
abbrev pub invariant-loop-offset : goal.invariant-loop-offset
invariant-loop-offset l =
    l.text ≡ l.fn.text ++ flat_map (by_reference l.input) (take l.offset-index l.references)
