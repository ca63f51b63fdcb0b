use Rattle.std.proofs.Common.{◌≡◌, length}
use Rattle.solver_tests.proofs.dead_tests.are_answered.Given as goal

-- the search is of a protocol of three messages
abbrev pub invariant-loop-ending : goal.invariant-loop-ending
invariant-loop-ending l = length l.search.messages ≡ 3
