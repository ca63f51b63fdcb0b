-- The names of messages are distinct by the shape of an expansion.
use Rattle.bspl_types.specs.declared.protocol.Message.{Message}
use Rattle.bspl_types.specs.Expansion.{no_message}
use Rattle.bspl_types.proofs.LookupLemmas.{one_named}
use Rattle.bspl_types.proofs.laws.messages_are_named_once.Goals as goal

pub returns : goal.returns
returns c = λ x name m n one other. one_named (λ (message : Message). message.name) x.messages name m n no_message x.shape.message_names.distinct one.known one.named other.known other.named
