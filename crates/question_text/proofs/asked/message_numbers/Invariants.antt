-- The numbers so far are those of the names so far.
use Rattle.std.proofs.Common.{take}
use Rattle.question_text.specs.Meaning.{AreMessagesNamed}
use Rattle.question_text.proofs.asked.message_numbers.Given as goal

abbrev pub invariant-loop-name : goal.invariant-loop-name
invariant-loop-name l = AreMessagesNamed l.x (take l.name-index l.names) l.numbers
