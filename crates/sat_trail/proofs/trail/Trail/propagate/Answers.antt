-- Both walks add forced entries, and see what they pass.
use Rattle.std.proofs.Common.{rules}
use Rattle.sat_trail.proofs.GrowthLemmas.{Extends-more, CanPropagate-extends}
use Rattle.sat_trail.proofs.TrailLemmas.{CanPropagate-kept, IsKept-stopped, IsKept-both, Propagates-extends, propagated-found}
use Rattle.sat_trail.proofs.FactLemmas.{IsTrail-grown}
use Rattle.sat_trail.proofs.trail.Trail.propagate.Goals as goal

pub examine_new-found-requires-clause-fits : goal.examine_new-found-requires-clause-fits
examine_new-found-requires-clause-fits c = CanPropagate-kept _ _ _ _ _ _ _ _ c.self.invariant

pub propagate_entries-found-requires : goal.propagate_entries-found-requires
propagate_entries-found-requires c = record {
  fits = CanPropagate-extends _ _ _ _ (CanPropagate-kept _ _ _ _ _ _ _ _ c.self.invariant) c.examine_new-found.ensures.extends;
  watched = search rules;
  linked = search rules;
}

pub invariant_of-self : goal.invariant_of-self
invariant_of-self c = IsKept-stopped _ _ _ _ _ _ _ _ _ _ _ _ _ c.self.invariant c.examine_new-found.ensures.extends c.self.invariant.linked c.examine_new-found.ensures.watched

pub returns-then-is_some-clause-sound : goal.returns-then-is_some-clause-sound
returns-then-is_some-clause-sound c =
    IsTrail-grown _ (IsKept-stopped _ _ _ _ _ _ _ _ _ _ _ _ _ c.self.invariant c.examine_new-found.ensures.extends c.self.invariant.linked c.examine_new-found.ensures.watched).trail

pub invariant_of-self-2 : goal.invariant_of-self-2
invariant_of-self-2 c =
    IsKept-both _ _ _ _ _ _ c.examine_new-found.new.set _ _ _ _ _ _ _ _ c.examine_new-found.result c.propagate_entries-found.result c.self.invariant
    c.examine_new-found.ensures.extends c.propagate_entries-found.ensures.extends c.propagate_entries-found.ensures.linked
    c.propagate_entries-found.ensures.watched c.if-is_some.ensures c.examine_new-found.ensures.all c.is_none-self-inside.ensures c.propagate_entries-found.ensures.all

pub returns-clause-grows : goal.returns-clause-grows
returns-clause-grows c = rw (← c.self.view_is)
    (Propagates-extends _ _ _ _ _ _ (Extends-more _ _ _ c.examine_new-found.new.set _ c.examine_new-found.ensures.extends c.propagate_entries-found.ensures.extends))

pub returns-clause-propagated : goal.returns-clause-propagated
returns-clause-propagated c = propagated-found _ _ _ _ c.propagate_entries-found.new.head c.propagate_entries-found.result
    (CanPropagate-extends _ _ _ _ (CanPropagate-extends _ _ _ _ (CanPropagate-kept _ _ _ _ _ _ _ _ c.self.invariant) c.examine_new-found.ensures.extends) c.propagate_entries-found.ensures.extends)
    c.propagate_entries-found.ensures.watched c.propagate_entries-found.ensures.all

pub returns-clause-sound : goal.returns-clause-sound
returns-clause-sound c =
    IsTrail-grown _ (IsKept-both _ _ _ _ _ _ c.examine_new-found.new.set _ _ _ _ _ _ _ _ c.examine_new-found.result c.propagate_entries-found.result c.self.invariant
    c.examine_new-found.ensures.extends c.propagate_entries-found.ensures.extends c.propagate_entries-found.ensures.linked
    c.propagate_entries-found.ensures.watched c.if-is_some.ensures c.examine_new-found.ensures.all c.is_none-self-inside.ensures c.propagate_entries-found.ensures.all).trail
