-- The literals are gathered up to the position, and one of the current level is left.
use Rattle.sat_solver.specs.inner.Analysis.{HasCurrent}
use Rattle.sat_solver.specs.inner.Gathered.{Gathers}
use Rattle.sat_solver.proofs.analysis.derive_asserting.Given as goal

abbrev pub invariant-resolving : goal.invariant-resolving
invariant-resolving l = record {
  gathers : Gathers l.trail l.number l.chain l.lits l.position;
  current : HasCurrent l.trail l.lits.set.lits;
}

abbrev pub decreases-resolving : goal.decreases-resolving
decreases-resolving l = l.position
