-- The law, by its lemma.
use Rattle.protocol_limits.proofs.MessageLemmas.{messages_counted}
use Rattle.protocol_limits.proofs.laws.messages_are_counted.Goals as goal

pub returns : goal.returns
returns c = messages_counted c.weights_add_up.ensures
