-- What is left is whole up to its last level, where propagation had nothing to do.
use Rattle.std.proofs.Common.{◌≡◌, refl, arith}
use Rattle.sat_trail.proofs.ChangeLemmas.{IsKept-back, IsKept-unready, back_to-state, back_to-same}
use Rattle.sat_trail.proofs.FactLemmas.{IsTrail-grown}
use Rattle.sat_trail.proofs.trail.Trail.back_to.Goals as goal

pub invariant_of-self : goal.invariant_of-self
invariant_of-self c = rw c.backtrack.ensures.level
    (IsKept-back _ _ _ _ _ _ _ _ _ _ _ c.self.invariant c.if-level-self.true c.backtrack.ensures.dropped c.backtrack.ensures.last c.backtrack.ensures.head)

pub returns-then-level-self-clause-kept : goal.returns-then-level-self-clause-kept
returns-then-level-self-clause-kept c = rw (← c.self.view_is, c.backtrack.ensures.level)
    (back_to-state _ _ _ _ _ c.self.inside.level _ c.backtrack.new.head _ c.self.inside.ready
    (IsKept-back _ _ _ _ _ _ _ _ _ _ _ c.self.invariant c.if-level-self.true c.backtrack.ensures.dropped c.backtrack.ensures.last c.backtrack.ensures.head)
    c.backtrack.ensures.dropped)

pub returns-then-level-self-clause-sound : goal.returns-then-level-self-clause-sound
returns-then-level-self-clause-sound c = rw c.backtrack.ensures.level (IsTrail-grown _
    (IsKept-back _ _ _ _ _ _ _ _ _ _ _ c.self.invariant c.if-level-self.true c.backtrack.ensures.dropped c.backtrack.ensures.last c.backtrack.ensures.head).trail)

pub returns-else-level-self-clause-kept : goal.returns-else-level-self-clause-kept
returns-else-level-self-clause-kept c =
    let same : c.args.level ≡ c.self.inside.level = omega (arith, rw (← c.self.view_is) at c.requires, c.if-level-self.false) in
    rw (← c.self.view_is, same, back_to-same c.self.inside.store c.self.inside.set _ _ c.self.invariant.trail) refl

pub returns-else-level-self-clause-sound : goal.returns-else-level-self-clause-sound
returns-else-level-self-clause-sound c = IsTrail-grown _ (IsKept-unready _ _ _ _ _ _ _ _ c.self.invariant).trail
