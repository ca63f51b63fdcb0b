-- After the variables of a lower kind come those of the next, and in the end none is left.
use Rattle.std.proofs.Common.{arith}
use Rattle.order_axioms.proofs.PairLemmas.{none_after, row_next}
use Rattle.order_axioms.proofs.order.Order.kinds_of.Goals as goal

pub loop-first-preserved : goal.loop-first-preserved
loop-first-preserved c =
    omega (arith, c.loop-first.invariant, row_next c.args.self c.loop-first.first (omega arith) (omega arith))

pub returns-clause-none : goal.returns-clause-none
returns-clause-none c =
    none_after c.args.self c.args.var c.loop-first.first c.loop-first.rest (λ some. omega arith) c.loop-first.invariant
