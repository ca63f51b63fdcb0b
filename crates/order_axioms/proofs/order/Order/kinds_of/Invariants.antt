-- The variable is so far behind the first one of the lower kind.
use Rattle.std.proofs.Common.{◌≡◌, ◌+◌}
use Rattle.order_axioms.proofs.PairLemmas.{row}
use Rattle.order_axioms.proofs.order.Order.kinds_of.Given as goal

abbrev pub invariant-loop-first : goal.invariant-loop-first
invariant-loop-first l = row l.self l.first + l.rest ≡ l.var
