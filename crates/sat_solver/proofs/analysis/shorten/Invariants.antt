-- The chain derives the clause of the literals.
use Rattle.sat_solver.specs.inner.Gathered.{Asserts}
use Rattle.sat_solver.proofs.analysis.shorten.Given as goal

abbrev pub invariant-loop-lit : goal.invariant-loop-lit
invariant-loop-lit l = Asserts l.trail l.chain l.lits
