-- The cycles with the kinds that were passed are closed, and the rows have all literals.
use Rattle.std.proofs.Common.{ℕ, ◌+◌, ◌-◌, ◌<◌, ◌≤◌}
use Rattle.order_axioms.specs.Order.{AreKinds}
use Rattle.sat_trail.specs.Entry.{values_of}
use Rattle.order_propagator.specs.inner.Closing.{ClosesCycle}
use Rattle.order_propagator.specs.inner.Making.{Grows}
use Rattle.order_propagator.specs.inner.Rows.{IsCaughtUp}
use Rattle.order_propagator.proofs.closing.close_pair.Given as goal

abbrev pub invariant-loop-kind : goal.invariant-loop-kind
invariant-loop-kind l = record {
  caught_up : IsCaughtUp l.numbers.order l.rows l.named;
  grows : Grows l.numbers.order l.fn.named l.named;
  from_one : 0 < l.from;
  up_to : l.from ≤ l.numbers.order.kinds + 1;
  closed : (z : ℕ) → z < l.from → AreKinds l.numbers.order l.pair.first l.pair.second z →
      ClosesCycle l.numbers.order (values_of l.fn.named.trail.entries) l.named.names (values_of l.named.trail.entries) l.pair.first l.pair.second z;
}

abbrev pub decreases-loop-kind : goal.decreases-loop-kind
decreases-loop-kind l = l.numbers.order.kinds + 1 - l.from
