-- In a journal of a history no place is alien.
use Rattle.durable_store.proofs.JournalLemmas.{histories_native}
use Rattle.durable_store.proofs.laws.histories_are_native.Goals as goal

pub returns : goal.returns
returns c = histories_native c.begun_are_native.ensures
