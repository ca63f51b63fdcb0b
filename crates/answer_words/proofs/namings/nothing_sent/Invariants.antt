-- Each message before is one that the role sends.
use Rattle.std.proofs.Common.{◌≡◌, length, map}
use Rattle.std.specs.List.{find}
use Rattle.text_lines.specs.Fields.{fields_of}
use Rattle.answer_words.specs.Namings.{sent_naming}
use Rattle.answer_words.specs.Meant.{names_nothing}
use Rattle.answer_words.proofs.namings.nothing_sent.Given as goal

-- the first that is not is that of the messages that are left
abbrev pub invariant-messages : goal.invariant-messages
invariant-messages l =
    find names_nothing (map (sent_naming l.x l.role) (fields_of l.rest)) ≡
    find names_nothing (map (sent_naming l.x l.role) (fields_of l.messages))

-- fewer messages are left at each turn
abbrev pub decreases-messages : goal.decreases-messages
decreases-messages l = length (fields_of l.rest)
