-- The test, and the law that a protocol which passes is safe.
use Rattle.std.proofs.Common.{subst}
use Rattle.std.specs.Prelude.{◌↔◌, IsTrue}
use Rattle.std.specs.List.{AllPairs}
use Rattle.enactment_model.specs.Producers.{SharesOut}
use Rattle.enactment_model.proofs.ProducerLemmas.{safe_by_one_producer}
use Rattle.enactment_model.proofs.producing_messages.single_producer.Goals as goal

pub returns-clause-exact : goal.returns-clause-exact
returns-clause-exact c = subst (λ messages. IsTrue c.share_nothing.result ↔ AllPairs (λ m n. ¬ SharesOut m n) messages) c.as_slice.ensures c.share_nothing.ensures

pub returns-clause-safe : goal.returns-clause-safe
returns-clause-safe c one = safe_by_one_producer c.args.x.now ((returns-clause-exact c).0 one)
