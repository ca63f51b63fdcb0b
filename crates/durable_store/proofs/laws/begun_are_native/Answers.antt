-- With a history in the first places, none of them is alien.
use Rattle.durable_store.proofs.BegunLemmas.{begun_native}
use Rattle.durable_store.proofs.laws.begun_are_native.Goals as goal

pub returns : goal.returns
returns c = begun_native c.bodies_are_distinct.ensures c.bodies_are_whole.ensures
