-- The mark falls.
use Rattle.sat_solver.proofs.recent_clause.newest_unsatisfied.Given as goal

abbrev pub decreases-loop-mark : goal.decreases-loop-mark
decreases-loop-mark l = l.mark
