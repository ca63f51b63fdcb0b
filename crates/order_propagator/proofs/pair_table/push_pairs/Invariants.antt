-- The pairs so far are there, and the next variable is that of the next pair.
use Rattle.std.proofs.Common.{◌≡◌, ◌+◌, length}
use Rattle.order_axioms.specs.Order.{pair_variable}
use Rattle.order_propagator.specs.inner.Pairs.{ArePairs}
use Rattle.order_propagator.proofs.pair_table.push_pairs.Given as goal

abbrev pub invariant-loop-second : goal.invariant-loop-second
invariant-loop-second l = record {
  pairs : ArePairs l.fn.order l.pairs.items;
  next : l.fn.order.base + length l.pairs.items + 1 ≡ pair_variable l.fn.order l.first l.second;
}
