-- Each call is one reason deeper.
use Rattle.sat_solver.proofs.implication.ImpliedLits.+covers.Given as goal

abbrev pub decreases-covers : goal.decreases-covers
decreases-covers l = l.depth
