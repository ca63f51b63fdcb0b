-- One clause after the other is settled.
use Rattle.std.proofs.Common.{◌<◌, subst}
use Rattle.sat_trail.proofs.GrowthLemmas.{Extends-more, Runs-more, HasWatches-extends, CanPropagate-top}
use Rattle.sat_trail.proofs.WatchedLemmas.{AreWatched-examined}
use Rattle.sat_trail.proofs.propagation.examine_new.Goals as goal

pub returns-then-propagate_new-clause-extends : goal.returns-then-propagate_new-clause-extends
returns-then-propagate_new-clause-extends c = Extends-more _ _ _ c.loop-examined.set _ c.loop-examined.invariant.0.extends c.propagate_new.ensures.extends

pub returns-then-propagate_new-clause-watched : goal.returns-then-propagate_new-clause-watched
returns-then-propagate_new-clause-watched c = HasWatches-extends _ _ c.loop-examined.set _ _ _ _ c.propagate_new.ensures.extends c.loop-examined.invariant.1

pub loop-examined-preserved : goal.loop-examined-preserved
loop-examined-preserved c =
    let runs = Runs-more _ _ _ c.loop-examined.set _ c.loop-examined.invariant.0 c.propagate_new.ensures.extends in (
      runs,
      AreWatched-examined _ _ _ _ _ _ _ (subst (λ n. c.loop-examined.examined < n) c.len.ensures c.loop-examined-test.true)
          (CanPropagate-top _ _ _ runs.fits) c.if-propagate_new.ensures.settled
          (HasWatches-extends _ _ c.loop-examined.set _ _ _ _ c.propagate_new.ensures.extends c.loop-examined.invariant.1),
    )
