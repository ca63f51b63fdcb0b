-- A clause that is found false stops propagation.
use Rattle.order_propagator.proofs.CloseLemmas.{stop-found}
use Rattle.order_propagator.proofs.named_trail.NamedTrail.propagate_next.Goals as goal

pub returns-clause-stop : goal.returns-clause-stop
returns-clause-stop c = stop-found c.propagate_next.new.self c.propagate_next.result c.stopped.result c.stopped.ensures.some c.propagate_next.ensures.falsified
