-- The queue is over the same variables, and those that are to be moved exist.
use Rattle.std.proofs.Common.{◌≡◌, ◌≤◌, ℕ, All}
use Rattle.sat_solver.proofs.variable_queue.VariableQueue.move_to_front.Given as goal

abbrev pub invariant-loop-lit : goal.invariant-loop-lit
invariant-loop-lit l = All (λ (entry : ℕ × ℕ). entry.1 ≤ l.self.vars) l.order.items

abbrev pub invariant-loop-entry : goal.invariant-loop-entry
invariant-loop-entry l = l.self.vars ≡ l.fn.self.vars
