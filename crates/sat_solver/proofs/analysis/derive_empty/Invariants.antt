-- The entries that are left make the literals false.
use Rattle.sat_solver.specs.inner.Gathered.{Gathers}
use Rattle.sat_solver.proofs.analysis.derive_empty.Given as goal

abbrev pub invariant-loop-position : goal.invariant-loop-position
invariant-loop-position l = Gathers l.trail l.number l.chain l.lits l.position

abbrev pub decreases-loop-position : goal.decreases-loop-position
decreases-loop-position l = l.position
