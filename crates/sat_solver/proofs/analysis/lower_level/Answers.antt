-- One more literal has no higher level, or the one that is taken.
use Rattle.sat_solver.proofs.LevelLemmas.{IsLowerLevel-more, IsLowerLevel-all}
use Rattle.sat_solver.proofs.analysis.lower_level.Goals as goal

pub loop-lit-preserved : goal.loop-lit-preserved
loop-lit-preserved c =
    let current = c.level-current.ensures.same in
    IsLowerLevel-more c.args.trail.now _ _ _ c.level_of.result c.loop-lit.lower _ c.loop-lit-test.true c.loop-lit.invariant c.level_of.ensures
    c.raised-lower.ensures.kept (rw current at c.raised-lower.ensures.below) c.raised-lower.ensures.taken (rw current at c.raised-lower.ensures.highest)

pub returns : goal.returns
returns c = IsLowerLevel-all c.args.trail.now _ _ _ c.loop-lit-test.false c.loop-lit.invariant
