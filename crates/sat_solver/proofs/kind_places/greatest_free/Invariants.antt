-- The kind falls.
use Rattle.std.proofs.Common.{◌≤◌}
use Rattle.sat_solver.proofs.kind_places.greatest_free.Given as goal

abbrev pub invariant-loop-kind : goal.invariant-loop-kind
invariant-loop-kind l = l.kind ≤ l.fn.order.kinds

abbrev pub decreases-loop-kind : goal.decreases-loop-kind
decreases-loop-kind l = l.kind
