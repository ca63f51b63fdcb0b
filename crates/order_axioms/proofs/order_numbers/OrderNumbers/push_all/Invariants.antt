-- The clauses that were passed are appended.
use Rattle.std.proofs.Common.{◌≡◌, ◌++◌, take}
use Rattle.order_axioms.specs.Order.{order_list}
use Rattle.order_axioms.proofs.order_numbers.OrderNumbers.push_all.Given as goal

abbrev pub invariant-loop-index : goal.invariant-loop-index
invariant-loop-index l = l.clauses ≡ l.initial.clauses ++ take l.index (order_list l.self.order)
