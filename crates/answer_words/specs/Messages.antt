-- Messages in words, and the messages of a run.
use Rattle.std.specs.Prelude.{ℕ, ◌-◌, List, [], ◌++◌, Option, None, Some, slice_get}
use Rattle.bspl_types.specs.declared.event.Event.{Event}
use Rattle.bspl_types.specs.declared.expanded.Expanded.{Expanded}
use Rattle.bspl_types.specs.declared.protocol.Message.{Message}
use Rattle.bspl_types.specs.Expansion.{message_of, no_message, role_name}
use Rattle.bspl_types.specs.History.{instance_of}
use Rattle.answer_words.specs.declared.wording.verdicts.TheConstants as verdicts

-- a message, its sender and its receiver
abbrev pub message_phrase : Expanded → Message → List ℕ
message_phrase x m =
    m.name ++ verdicts.FROM.now ++ role_name x m.sender ++ verdicts.TO.now ++ role_name x m.receiver

-- the message of an event; without an event, none
abbrev pub event_message : Expanded → Option Event → Message
event_message x None = no_message
event_message x (Some event) = message_of x (instance_of event).message

-- the message of the n-th event of a run, from 1
abbrev pub nth_message : Expanded → List Event → ℕ → Message
nth_message x run n = event_message x (slice_get run (n - 1))
