-- By the list of positions beside that of messages.
use Rattle.protocol_paths.proofs.PositionLemmas.{messages_listed}
use Rattle.protocol_paths.proofs.laws.message_paths_are_all.Goals as goal

pub returns : goal.returns
returns c = messages_listed
