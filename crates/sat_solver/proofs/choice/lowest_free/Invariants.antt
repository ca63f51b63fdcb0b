-- The variables that were passed have values.
use Rattle.std.proofs.Common.{◌-◌}
use Rattle.sat_solver.specs.inner.Choice.{AreSetUpTo}
use Rattle.sat_solver.proofs.choice.lowest_free.Given as goal

abbrev pub invariant-loop-lowest : goal.invariant-loop-lowest
invariant-loop-lowest l = AreSetUpTo l.trail l.lowest

abbrev pub decreases-loop-lowest : goal.decreases-loop-lowest
decreases-loop-lowest l = l.vars - l.lowest
