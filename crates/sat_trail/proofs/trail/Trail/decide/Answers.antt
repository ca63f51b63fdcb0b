-- The literal is decided where propagation had nothing to do.
use Rattle.std.proofs.Common.{arith}
use Rattle.sat_trail.proofs.ChangeLemmas.{IsKept-decide, level-fits}
use Rattle.sat_trail.proofs.FactLemmas.{IsTrail-grown}
use Rattle.sat_trail.proofs.trail.Trail.decide.Goals as goal

pub overflow_add-self : goal.overflow_add-self
overflow_add-self c =
    let room = c.len-self-inside.ensures.room in
    let none = rw (← c.self.view_is) at c.requires.no_value in
    let exists = rw (← c.self.view_is) at c.requires.exists.within in
    omega (arith, room.few, room.more c.args.lit.var c.requires.exists.from_one exists none, level-fits c.self.inside.store c.self.inside.set _ _ c.self.invariant.trail)

pub invariant_of-self : goal.invariant_of-self
invariant_of-self c =
    IsKept-decide _ _ _ _ _ _ _ _ _ c.args.lit _ (rw (← c.self.view_is) at c.requires.ready) c.self.invariant c.requires.exists.from_one (rw (← c.self.view_is) at c.requires.exists.within)
    (rw (← c.self.view_is) at c.requires.no_value) (rw c.decision.ensures at c.push.ensures) c.len-self-inside.ensures.count

pub returns-clause-sound : goal.returns-clause-sound
returns-clause-sound c =
    IsTrail-grown _ (IsKept-decide _ _ _ _ _ _ _ _ _ c.args.lit _ (rw (← c.self.view_is) at c.requires.ready) c.self.invariant c.requires.exists.from_one (rw (← c.self.view_is) at c.requires.exists.within)
    (rw (← c.self.view_is) at c.requires.no_value) (rw c.decision.ensures at c.push.ensures) c.len-self-inside.ensures.count).trail

pub returns-clause-room : goal.returns-clause-room
returns-clause-room c =
    rw (← c.self.view_is)
    (c.len-self-inside.ensures.room.more c.args.lit.var c.requires.exists.from_one (rw (← c.self.view_is) at c.requires.exists.within) (rw (← c.self.view_is) at c.requires.no_value))
