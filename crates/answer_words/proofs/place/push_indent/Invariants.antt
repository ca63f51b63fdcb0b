-- What was written of the indent.
use Rattle.std.proofs.Common.{◌≡◌, ◌++◌, take}
use Rattle.answer_words.specs.Place.{indent}
use Rattle.answer_words.proofs.place.push_indent.Given as goal

-- that of the bytes so far
abbrev pub invariant-loop-byte : goal.invariant-loop-byte
invariant-loop-byte l = l.text ≡ l.fn.text ++ indent (take l.byte-index l.bytes)
