-- Other names of reasons leave the values.
use Rattle.std.proofs.Common.{sym, ◌∙◌}
use Rattle.order_propagator.proofs.EntryLemmas.{value-renamed}
use Rattle.order_propagator.proofs.trail.OrderTrail.value.Goals as goal

pub returns : goal.returns
returns c = rw (← c.self.view_is) (c.value.ensures ∙ sym (value-renamed c.self.inside.named.names c.self.inside.named.trail.entries c.args.var))
