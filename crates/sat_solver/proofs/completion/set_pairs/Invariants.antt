-- There are as many values.
use Rattle.std.proofs.Common.{◌≡◌, length}
use Rattle.sat_solver.proofs.completion.set_pairs.Given as goal

abbrev pub invariant-loop-i : goal.invariant-loop-i
invariant-loop-i l = length l.values ≡ length l.fn.values

abbrev pub invariant-loop-j : goal.invariant-loop-j
invariant-loop-j l = length l.values ≡ length l.fn.values
