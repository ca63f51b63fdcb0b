-- Lower levels were closed when the next one was decided.
use Rattle.std.proofs.Common.{min, length}
use Rattle.order_propagator.proofs.BackLemmas.{whole-back}
use Rattle.order_propagator.proofs.RestLemmas.{IsKept-back, trail-kept}
use Rattle.order_propagator.proofs.RowLemmas.{rows-back}
use Rattle.order_propagator.proofs.trail.OrderTrail.back_to.Goals as goal

pub invariant_of-self : goal.invariant_of-self
invariant_of-self c = record {
  kept = rw (c.min-self-inside.ensures, c.len-count.ensures.count) (IsKept-back _ c.self.inside.named c.back_to.new.self _ c.args.level _ _ c.self.invariant.kept (rw (← c.self.view_is) at c.requires) c.back_to.ensures.kept c.back_to.ensures.sound);
  first = rows-back _ c.self.inside.rows c.truncate.new.self c.self.inside.named.trail c.back_to.new.self c.args.level _ c.self.invariant.kept.can_make.trail c.self.invariant.first c.back_to.ensures.kept c.len-count.ensures.count c.truncate.ensures;
}

pub returns-clause-kept : goal.returns-clause-kept
returns-clause-kept c =
    rw (← c.self.view_is, c.back_to.ensures.kept) (whole-back c.self.inside.numbers.order c.self.inside.named.names c.self.inside.places c.self.inside.named.trail c.args.level c.self.inside.ready)

pub returns-clause-sound : goal.returns-clause-sound
returns-clause-sound c = trail-kept _ _ _ (min c.self.inside.head (length c.back_to.new.self.entries)) _ c.clauses_forbid_cycles.ensures
    (IsKept-back _ c.self.inside.named c.back_to.new.self _ c.args.level _ _ c.self.invariant.kept (rw (← c.self.view_is) at c.requires) c.back_to.ensures.kept c.back_to.ensures.sound)
