-- No protocol before has a use there, and nothing is written.
use Rattle.std.proofs.Common.{◌≡◌, drop}
use Rattle.answer_words.specs.Uses.{unknown_text}
use Rattle.answer_words.proofs.uses.push_unknown.Given as goal

-- the line is that of the protocols that are left
abbrev pub invariant-loop-protocol : goal.invariant-loop-protocol
invariant-loop-protocol l =
    (l.text ≡ l.fn.text) ×
    (unknown_text l.protocols l.offset (drop l.protocol-index l.protocols) ≡
    unknown_text l.protocols l.offset l.protocols)
