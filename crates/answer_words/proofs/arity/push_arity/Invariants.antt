-- No protocol before has a reference there, and nothing is written.
use Rattle.std.proofs.Common.{◌≡◌, drop}
use Rattle.answer_words.specs.Arity.{arity_text}
use Rattle.answer_words.proofs.arity.push_arity.Given as goal

-- the line is that of the protocols that are left
abbrev pub invariant-loop-protocol : goal.invariant-loop-protocol
invariant-loop-protocol l =
    (l.text ≡ l.fn.text) ×
    (arity_text l.protocols l.offset (drop l.protocol-index l.protocols) ≡
    arity_text l.protocols l.offset l.protocols)
