-- The queue is over the variables.
use Rattle.std.proofs.Common.{◌≡◌}
use Rattle.sat_solver.proofs.variable_queue.VariableQueue.new.Given as goal

abbrev pub invariant-loop-index : goal.invariant-loop-index
invariant-loop-index l = l.queue.vars ≡ l.vars
