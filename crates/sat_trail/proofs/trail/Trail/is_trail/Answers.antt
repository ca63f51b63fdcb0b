-- What every trail keeps follows from its growth.
use Rattle.sat_trail.proofs.FactLemmas.{IsTrail-grown}
use Rattle.sat_trail.proofs.trail.Trail.is_trail.Goals as goal

pub returns : goal.returns
returns c = rw (← c.self.view_is) (IsTrail-grown _ c.self.invariant.trail)
