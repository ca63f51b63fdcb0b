-- The messages so far have been appended.
use Rattle.std.proofs.Common.{◌≡◌, ◌++◌, take}
use Rattle.question_text.specs.inner.Spaced.{after_spaces, excused_words}
use Rattle.question_text.proofs.spelling.push_excused.Given as goal

abbrev pub invariant-loop-message : goal.invariant-loop-message
invariant-loop-message l = l.text ≡ l.initial.text ++ after_spaces (excused_words (take l.message-index l.excused))
