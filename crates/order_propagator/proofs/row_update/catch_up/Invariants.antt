-- The rows have the literals of the first entries.
use Rattle.std.proofs.Common.{◌-◌, length}
use Rattle.order_propagator.specs.inner.Rows.{HaveFirst}
use Rattle.order_propagator.proofs.row_update.catch_up.Given as goal

abbrev pub invariant-loop-rows : goal.invariant-loop-rows
invariant-loop-rows l = HaveFirst l.fn.rows.order l.rows l.trail.entries

abbrev pub decreases-loop-rows : goal.decreases-loop-rows
decreases-loop-rows l = length l.trail.entries - length l.rows.lits
