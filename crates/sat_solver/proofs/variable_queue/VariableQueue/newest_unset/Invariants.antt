-- The queue is over the same variables.
use Rattle.std.proofs.Common.{◌≡◌}
use Rattle.sat_solver.proofs.variable_queue.VariableQueue.newest_unset.Given as goal

abbrev pub invariant-loop : goal.invariant-loop
invariant-loop l = l.self.vars ≡ l.fn.self.vars
