-- Either part adds forced entries.
use Rattle.std.proofs.Common.{◌≡◌, length, subst, arith}
use Rattle.sat_trail.specs.inner.Propagation.{HasWatches}
use Rattle.sat_trail.proofs.TrailLemmas.{IsKept-stopped}
use Rattle.sat_trail.proofs.FactLemmas.{IsTrail-grown}
use Rattle.sat_trail.proofs.trail.Trail.propagate_next.Goals as goal

pub invariant_of-self : goal.invariant_of-self
invariant_of-self c = IsKept-stopped _ _ _ _ _ _ _ _ _ _ _ _ _ c.self.invariant c.examine_new.ensures.extends c.self.invariant.linked c.examine_new.ensures.watched

pub returns-then-self-len-clause-sound : goal.returns-then-self-len-clause-sound
returns-then-self-len-clause-sound c =
    IsTrail-grown _ (IsKept-stopped _ _ _ _ _ _ _ _ _ _ _ _ _ c.self.invariant c.examine_new.ensures.extends c.self.invariant.linked c.examine_new.ensures.watched).trail

pub invariant_of-self-2 : goal.invariant_of-self-2
invariant_of-self-2 c =
    IsKept-stopped _ _ _ _ _ _ _ _ _ _ _ _ _ c.self.invariant c.propagate_head.ensures.extends c.propagate_head.ensures.linked
    (let all : length c.self.inside.store ≡ c.self.inside.examined = omega (arith, c.len.ensures, c.if-self-len.false, c.self.invariant.watched.examined_within) in
    subst (λ n. HasWatches c.self.inside.store c.propagate_head.new.lists.cells.items c.propagate_head.new.set c.self.inside.level c.propagate_head.new.head n) all c.propagate_head.ensures.watched)

pub returns-clause-sound : goal.returns-clause-sound
returns-clause-sound c =
    IsTrail-grown _ (IsKept-stopped _ _ _ _ _ _ _ _ _ _ _ _ _ c.self.invariant c.propagate_head.ensures.extends c.propagate_head.ensures.linked
    c.propagate_head.ensures.watched).trail
