-- The rule is over the same variables, and the position falls.
use Rattle.std.proofs.Common.{◌≡◌, ◌≤◌, length}
use Rattle.sat_solver.proofs.decision_rule.DecisionRule.take_in.Given as goal

abbrev pub invariant-loop-position : goal.invariant-loop-position
invariant-loop-position l = (l.self-inside.queue.vars ≡ l.fn.self.vars) × (l.position ≤ length l.trail.entries)

abbrev pub decreases-loop-position : goal.decreases-loop-position
decreases-loop-position l = l.position

abbrev pub invariant-loop-lit : goal.invariant-loop-lit
invariant-loop-lit l = l.self-inside.queue.vars ≡ l.fn.self.vars
