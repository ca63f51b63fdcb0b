-- The pairs of the lower kinds so far are there, and the next variable is that of the next kind.
use Rattle.std.proofs.Common.{◌≡◌, ◌+◌, length}
use Rattle.order_propagator.specs.inner.Pairs.{ArePairs}
use Rattle.order_propagator.proofs.VariableLemmas.{row}
use Rattle.order_propagator.proofs.pair_table.pair_table.Given as goal

abbrev pub invariant-loop-first : goal.invariant-loop-first
invariant-loop-first l = record {
  pairs : ArePairs l.order l.pairs.items;
  next : l.order.base + length l.pairs.items + 1 ≡ row l.order l.first;
}
