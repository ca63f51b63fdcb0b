-- Other names of reasons leave the levels.
use Rattle.std.proofs.Common.{sym, ◌∙◌}
use Rattle.order_propagator.proofs.EntryLemmas.{level_of-renamed}
use Rattle.order_propagator.proofs.trail.OrderTrail.level_of.Goals as goal

pub returns : goal.returns
returns c = rw (← c.self.view_is) (c.level_of.ensures ∙ sym (level_of-renamed c.self.inside.named.names c.self.inside.named.trail.entries c.args.var))
