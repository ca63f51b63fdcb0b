-- The last literal goes, and its bits with it.
use Rattle.std.proofs.Common.{subst}
use Rattle.order_propagator.specs.inner.BitRows.{AreOrderRows}
use Rattle.order_propagator.proofs.OrderRowLemmas.{kept-pop}
use Rattle.order_propagator.proofs.order_rows.OrderRows.pop.Goals as goal

pub invariant_of-self-2 : goal.invariant_of-self-2
invariant_of-self-2 c = kept-pop c.self.inside.pairs c.pop.new.self.items c.in-Some.last c.self.inside.rows c.clear.new.self
    (subst (λ ls. AreOrderRows c.self.inside.pairs ls c.self.inside.rows) c.in-Some.ensures.items c.self.invariant) c.clear.ensures.some c.clear.ensures.none
