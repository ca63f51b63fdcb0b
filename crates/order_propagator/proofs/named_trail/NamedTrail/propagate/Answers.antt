-- A clause that is found false stops propagation.
use Rattle.order_propagator.proofs.CloseLemmas.{stop-found}
use Rattle.order_propagator.proofs.named_trail.NamedTrail.propagate.Goals as goal

pub returns-clause-stop : goal.returns-clause-stop
returns-clause-stop c = stop-found c.propagate.new.self c.propagate.result c.stopped.result c.stopped.ensures.some c.propagate.ensures.falsified
