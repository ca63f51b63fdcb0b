-- No reference before names its protocol there.
use Rattle.std.proofs.Common.{◌≡◌, drop}
use Rattle.answer_words.specs.Arity.{reference_at}
use Rattle.answer_words.proofs.arity.reference_at.Given as goal

-- the reference is that of the items that are left
abbrev pub invariant-loop-item : goal.invariant-loop-item
invariant-loop-item l = reference_at l.offset (drop l.item-index l.body) ≡ reference_at l.offset l.body
