-- One number more.
use Rattle.order_propagator.proofs.NewLemmas.{range-next}
use Rattle.order_propagator.proofs.trail.numbers_after.Goals as goal

pub loop-index-preserved : goal.loop-index-preserved
loop-index-preserved c = range-next c.args.first c.loop-index.index c.loop-index.numbers c.push.new.self c.loop-index.invariant c.in_ok-push.ensures.ok
