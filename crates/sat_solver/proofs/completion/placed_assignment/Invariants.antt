-- There is a value for each variable that was passed.
use Rattle.std.proofs.Common.{◌≡◌, length}
use Rattle.sat_solver.proofs.completion.placed_assignment.Given as goal

abbrev pub invariant-loop-index : goal.invariant-loop-index
invariant-loop-index l = length l.values ≡ l.index
