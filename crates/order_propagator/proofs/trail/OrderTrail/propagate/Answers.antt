-- The whole formula is propagated where the trail is at rest and the order closed.
use Rattle.std.proofs.Common.{false, refl, subst}
use Rattle.order_propagator.specs.inner.Closing.{IsStop}
use Rattle.order_propagator.proofs.RestLemmas.{IsKept-grows, trail-kept}
use Rattle.order_propagator.proofs.ViewLemmas.{falsified-named, propagates-whole}
use Rattle.order_propagator.proofs.trail.OrderTrail.propagate.Goals as goal

pub close_all-requires : goal.close_all-requires
close_all-requires c = record { can = c.self.invariant.kept.can_make; closed = c.self.invariant.kept.closed; first = c.self.invariant.first }

pub invariant_of-self : goal.invariant_of-self
invariant_of-self c = record { kept = IsKept-grows _ c.self.inside.named c.close_all.new.named c.self.inside.places c.self.inside.head c.close_all.new.head c.self.inside.ready _ c.self.invariant.kept c.close_all.ensures.closing.can c.close_all.ensures.grows c.close_all.ensures.closing.closed (λ _. c.in-Ok.ensures.rest); first = c.close_all.ensures.closing.first }

pub invariant_of-self-in-Err-Falsified : goal.invariant_of-self-in-Err-Falsified
invariant_of-self-in-Err-Falsified c = record { kept = IsKept-grows _ c.self.inside.named c.close_all.new.named c.self.inside.places c.self.inside.head c.close_all.new.head c.self.inside.ready _ c.self.invariant.kept c.close_all.ensures.closing.can c.close_all.ensures.grows c.close_all.ensures.closing.closed (λ impossible. cc); first = c.close_all.ensures.closing.first }

pub invariant_of-self-in-Err-NoMemory : goal.invariant_of-self-in-Err-NoMemory
invariant_of-self-in-Err-NoMemory c = record { kept = IsKept-grows _ c.self.inside.named c.close_all.new.named c.self.inside.places c.self.inside.head c.close_all.new.head c.self.inside.ready _ c.self.invariant.kept c.close_all.ensures.closing.can c.close_all.ensures.grows c.close_all.ensures.closing.closed (λ impossible. cc); first = c.close_all.ensures.closing.first }

pub returns-in-Ok-clause-grows : goal.returns-in-Ok-clause-grows
returns-in-Ok-clause-grows c = rw (← c.self.view_is) (propagates-whole c.self.inside.numbers.order c.self.inside.named c.close_all.new.named c.self.inside.places c.self.inside.ready _ c.close_all.ensures.grows c.self.invariant.kept.can_make c.self.invariant.kept.placed)

pub returns-in-Ok-clause-propagated : goal.returns-in-Ok-clause-propagated
returns-in-Ok-clause-propagated c = (trail-kept _ c.close_all.new.named c.self.inside.places c.close_all.new.head _ c.clauses_forbid_cycles.ensures
    (IsKept-grows _ c.self.inside.named c.close_all.new.named c.self.inside.places c.self.inside.head c.close_all.new.head c.self.inside.ready _ c.self.invariant.kept c.close_all.ensures.closing.can c.close_all.ensures.grows c.close_all.ensures.closing.closed (λ _. c.in-Ok.ensures.rest))).ready_propagated refl

pub returns-in-Ok-clause-sound : goal.returns-in-Ok-clause-sound
returns-in-Ok-clause-sound c = trail-kept _ c.close_all.new.named c.self.inside.places c.close_all.new.head _ c.clauses_forbid_cycles.ensures
    (IsKept-grows _ c.self.inside.named c.close_all.new.named c.self.inside.places c.self.inside.head c.close_all.new.head c.self.inside.ready _ c.self.invariant.kept c.close_all.ensures.closing.can c.close_all.ensures.grows c.close_all.ensures.closing.closed (λ _. c.in-Ok.ensures.rest))

pub returns-in-Err-Falsified-clause-grows : goal.returns-in-Err-Falsified-clause-grows
returns-in-Err-Falsified-clause-grows c = rw (← c.self.view_is) (propagates-whole c.self.inside.numbers.order c.self.inside.named c.close_all.new.named c.self.inside.places c.self.inside.ready _ c.close_all.ensures.grows c.self.invariant.kept.can_make c.self.invariant.kept.placed)

pub returns-in-Err-Falsified-clause-falsified : goal.returns-in-Err-Falsified-clause-falsified
returns-in-Err-Falsified-clause-falsified c =
    let kept = IsKept-grows c.self.inside.numbers.order c.self.inside.named c.close_all.new.named c.self.inside.places c.self.inside.head c.close_all.new.head c.self.inside.ready false c.self.invariant.kept c.close_all.ensures.closing.can c.close_all.ensures.grows c.close_all.ensures.closing.closed (λ impossible. cc) in
    falsified-named c.self.inside.numbers.order c.close_all.new.named c.self.inside.places false c.in-Err-Falsified.number c.name.result c.close_all.ensures.closing.can kept.placed c.name.ensures
    (subst (IsStop c.close_all.new.named.trail) c.in-Err-Falsified.field-0-is c.in-Err-Falsified.ensures.stop)

pub returns-in-Err-Falsified-clause-sound : goal.returns-in-Err-Falsified-clause-sound
returns-in-Err-Falsified-clause-sound c = trail-kept _ c.close_all.new.named c.self.inside.places c.close_all.new.head _ c.clauses_forbid_cycles.ensures
    (IsKept-grows _ c.self.inside.named c.close_all.new.named c.self.inside.places c.self.inside.head c.close_all.new.head c.self.inside.ready _ c.self.invariant.kept c.close_all.ensures.closing.can c.close_all.ensures.grows c.close_all.ensures.closing.closed (λ impossible. cc))

pub returns-in-Err-NoMemory-clause-grows : goal.returns-in-Err-NoMemory-clause-grows
returns-in-Err-NoMemory-clause-grows c = rw (← c.self.view_is) (propagates-whole c.self.inside.numbers.order c.self.inside.named c.close_all.new.named c.self.inside.places c.self.inside.ready _ c.close_all.ensures.grows c.self.invariant.kept.can_make c.self.invariant.kept.placed)

pub returns-in-Err-NoMemory-clause-sound : goal.returns-in-Err-NoMemory-clause-sound
returns-in-Err-NoMemory-clause-sound c = trail-kept _ c.close_all.new.named c.self.inside.places c.close_all.new.head _ c.clauses_forbid_cycles.ensures
    (IsKept-grows _ c.self.inside.named c.close_all.new.named c.self.inside.places c.self.inside.head c.close_all.new.head c.self.inside.ready _ c.self.invariant.kept c.close_all.ensures.closing.can c.close_all.ensures.grows c.close_all.ensures.closing.closed (λ impossible. cc))
