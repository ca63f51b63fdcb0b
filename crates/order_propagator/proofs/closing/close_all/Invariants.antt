-- The order is closed up to the head.
use Rattle.std.proofs.Common.{◌-◌}
use Rattle.order_propagator.specs.inner.Making.{Grows}
use Rattle.order_propagator.specs.inner.Rows.{IsClosing}
use Rattle.order_propagator.proofs.closing.close_all.Given as goal

abbrev pub invariant-loop-head : goal.invariant-loop-head
invariant-loop-head l = record {
  closing : IsClosing l.numbers.order l.rows l.named l.head;
  grows : Grows l.numbers.order l.fn.named l.named;
}

abbrev pub decreases-loop-head : goal.decreases-loop-head
decreases-loop-head l = l.named.trail.vars - l.head
