-- The literal is decided where nothing was left to do.
use Rattle.std.proofs.Common.{sym, ◌∙◌}
use Rattle.order_propagator.proofs.EntryLemmas.{value-renamed}
use Rattle.order_propagator.proofs.RestLemmas.{IsKept-decide, trail-kept}
use Rattle.order_propagator.proofs.RowLemmas.{rows-decide}
use Rattle.order_propagator.proofs.trail.OrderTrail.decide.Goals as goal

pub decide-requires-clause-no_value : goal.decide-requires-clause-no_value
decide-requires-clause-no_value c =
    sym (value-renamed c.self.inside.named.names c.self.inside.named.trail.entries c.args.lit.var) ∙ (rw (← c.self.view_is) at c.requires.no_value)

pub invariant_of-self : goal.invariant_of-self
invariant_of-self c = record {
  kept = IsKept-decide _ c.self.inside.named c.decide.new.self _ _ _ c.args.lit c.self.invariant.kept (rw (← c.self.view_is) at c.requires.ready) c.decide.ensures.decided c.decide.ensures.sound;
  first = rows-decide _ _ c.self.inside.named.trail c.decide.new.self c.args.lit c.decide.ensures.decided c.self.invariant.first;
}

pub returns-clause-sound : goal.returns-clause-sound
returns-clause-sound c = trail-kept _ _ _ c.self.inside.head _ c.clauses_forbid_cycles.ensures
    (IsKept-decide _ c.self.inside.named c.decide.new.self _ _ _ c.args.lit c.self.invariant.kept (rw (← c.self.view_is) at c.requires.ready) c.decide.ensures.decided c.decide.ensures.sound)
