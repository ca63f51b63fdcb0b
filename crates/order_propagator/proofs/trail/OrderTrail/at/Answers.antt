-- Other names of reasons leave the literals.
use Rattle.std.proofs.Common.{◌≡◌, Some, slice_get, sym, subst}
use Rattle.order_propagator.proofs.EntryLemmas.{lits-renamed}
use Rattle.order_propagator.proofs.trail.OrderTrail.at.Goals as goal

pub returns-clause-literal : goal.returns-clause-literal
returns-clause-literal c =
    rw (← c.self.view_is) (subst (λ ls. slice_get ls c.args.i ≡ Some c.at.result) (sym (lits-renamed c.self.inside.named.names c.self.inside.named.trail.entries)) c.at.ensures.literal)
