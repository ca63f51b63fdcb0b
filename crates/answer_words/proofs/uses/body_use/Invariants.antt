-- No item before has a use there.
use Rattle.std.proofs.Common.{◌≡◌, drop}
use Rattle.answer_words.specs.Uses.{body_use}
use Rattle.answer_words.proofs.uses.body_use.Given as goal

-- the use is that of the items that are left
abbrev pub invariant-loop-item : goal.invariant-loop-item
invariant-loop-item l = body_use l.offset (drop l.item-index l.body) ≡ body_use l.offset l.body
