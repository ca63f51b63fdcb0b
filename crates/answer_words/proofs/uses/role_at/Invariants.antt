-- No word before stands there.
use Rattle.std.proofs.Common.{◌≡◌, drop}
use Rattle.answer_words.specs.Uses.{role_use_at}
use Rattle.answer_words.proofs.uses.role_at.Given as goal

-- the use is that of the words that are left
abbrev pub invariant-loop-word : goal.invariant-loop-word
invariant-loop-word l = role_use_at l.offset (drop l.word-index l.words) ≡ role_use_at l.offset l.words
