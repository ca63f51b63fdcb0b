-- There are as many values as the message's parameters that have one.
use Rattle.wire_form.proofs.ActLemmas.{arriving_long}
use Rattle.wire_form.proofs.meaning.arrival_of.Goals as goal

pub instance_with-requires-clause-each : goal.instance_with-requires-clause-each
instance_with-requires-clause-each c = arriving_long _ _ _ _ _ _ (rw c.expanded.ensures.same at c.in_ok-message.ensures)
