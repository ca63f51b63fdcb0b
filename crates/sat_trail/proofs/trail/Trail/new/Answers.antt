-- The formula's clauses are watched, and nothing is set.
use Rattle.sat_trail.proofs.AdditionLemmas.{IsKept-new, IsStart-new}
use Rattle.sat_trail.proofs.FactLemmas.{IsTrail-grown}
use Rattle.sat_trail.proofs.trail.Trail.new.Goals as goal

pub invariant_of-result : goal.invariant_of-result
invariant_of-result c = IsKept-new c.args.f.now _ _ _ _ _ c.in_ok-store.ensures c.as_slice-given.ensures c.in_ok-set.ensures.none c.requires c.watch_all.ensures

pub returns-clause-start : goal.returns-clause-start
returns-clause-start c = IsStart-new c.args.f.now _ _ _ c.in_ok-store.ensures c.as_slice-given.ensures c.in_ok-set.ensures.none

pub returns-clause-sound : goal.returns-clause-sound
returns-clause-sound c = IsTrail-grown _ (IsKept-new c.args.f.now _ _ _ _ _ c.in_ok-store.ensures c.as_slice-given.ensures c.in_ok-set.ensures.none c.requires c.watch_all.ensures).trail
