-- An image is a journal of one list of entries at most.
use Rattle.durable_store.proofs.JournalLemmas.{one_journal}
use Rattle.durable_store.proofs.laws.journals_are_one.Goals as goal

pub returns : goal.returns
returns c = one_journal c.bodies_are_distinct.ensures c.bodies_are_whole.ensures
