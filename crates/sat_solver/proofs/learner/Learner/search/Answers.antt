-- What was set stays set when the trail grows.
use Rattle.std.proofs.Common.{ap, rules}
use Rattle.sat_trail.specs.State.{State}
use Rattle.sat_solver.specs.inner.Search.{KeepsClauses}
use Rattle.sat_solver.proofs.GrowthLemmas.{AreSetUpTo-more}
use Rattle.sat_solver.proofs.learner.Learner.search.Goals as goal

pub choose-requires : goal.choose-requires
choose-requires c = record {
  passed =
      AreSetUpTo-more c.deciding.self.trail c.propagate.new.self c.propagate.ensures.grows.added c.deciding.lowest
      (ap (λ (s : State). s.entries) c.propagate.ensures.grows.grows) c.deciding.invariant.1;
}

pub deciding-preserved : goal.deciding-preserved
deciding-preserved c =
    let keeps : KeepsClauses c.args.self.now.trail c.decide.new.self = search rules in (
      keeps,
      AreSetUpTo-more c.propagate.new.self c.decide.new.self _ c.choose.new.lowest
          (ap (λ (s : State). s.entries) c.decide.ensures.decided) c.choose.ensures.passed,
      c.deciding.invariant.2,
    )
