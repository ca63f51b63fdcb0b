-- What every trail keeps follows from what the parts keep.
use Rattle.order_propagator.proofs.RestLemmas.{trail-kept}
use Rattle.order_propagator.proofs.trail.OrderTrail.is_trail.Goals as goal

pub returns : goal.returns
returns c = rw (← c.self.view_is) (trail-kept _ _ _ c.self.inside.head _ c.clauses_forbid_cycles.ensures c.self.invariant.kept)
