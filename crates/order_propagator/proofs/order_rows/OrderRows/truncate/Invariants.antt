-- The first literals are as they were.
use Rattle.std.proofs.Common.{◌≡◌, length, take}
use Rattle.order_propagator.proofs.order_rows.OrderRows.truncate.Given as goal

abbrev pub invariant-loop-self : goal.invariant-loop-self
invariant-loop-self l = record {
  order : l.self.order ≡ l.fn.self.order;
  first : take l.count l.self.lits ≡ take l.count l.fn.self.lits;
}

abbrev pub decreases-loop-self : goal.decreases-loop-self
decreases-loop-self l = length l.self.lits
