-- No entry has the clause as its reason, so each keeps its cause.
use Rattle.sat_trail.proofs.FactLemmas.{IsTrail-grown}
use Rattle.sat_trail.proofs.RemovalLemmas.{live-given, IsKept-remove, Removes-set}
use Rattle.std.proofs.Common.{Option, List, ap}
use Rattle.clause_core.specs.declared.literal.Lit.{Lit}
use Rattle.sat_trail.specs.inner.Propagation.{state_of}
use Rattle.sat_trail.proofs.trail.Trail.remove.Goals as goal

pub remove-requires : goal.remove-requires
remove-requires c =
    let given = live-given _ c.args.clause (rw (← c.self.view_is) at c.requires.live) in
    record { from_one = given.0; within = given.1 }

pub invariant_of-self : goal.invariant_of-self
invariant_of-self c = IsKept-remove _ _ _ _ _ _ _ _ _ c.args.clause c.self.invariant (rw (← c.self.view_is) at c.requires.live) (rw (← c.self.view_is) at c.requires.no_reason) c.remove.ensures

pub returns-clause-removes : goal.returns-clause-removes
returns-clause-removes c = rw (← c.self.view_is)
    (Removes-set _ c.args.clause _ (rw (← c.self.view_is) at c.requires.live)
    (ap (λ (store : List (Option (List Lit))). state_of store c.self.inside.set c.self.inside.level c.self.inside.ready) c.remove.ensures))

pub returns-clause-sound : goal.returns-clause-sound
returns-clause-sound c = IsTrail-grown _ (IsKept-remove _ _ _ _ _ _ _ _ _ c.args.clause c.self.invariant (rw (← c.self.view_is) at c.requires.live) (rw (← c.self.view_is) at c.requires.no_reason) c.remove.ensures).trail
