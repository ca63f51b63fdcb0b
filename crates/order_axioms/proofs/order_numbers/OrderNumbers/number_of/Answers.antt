-- The index of the clause, and one.
use Rattle.std.proofs.Common.{◌-◌, arith}
use Rattle.order_axioms.proofs.NumberLemmas.{index_small, rising_number}
use Rattle.order_axioms.proofs.StartLemmas.{pair_starts_rise}
use Rattle.order_axioms.proofs.order_numbers.OrderNumbers.number_of.Goals as goal

pub overflow_sub-pairs : goal.overflow_sub-pairs
overflow_sub-pairs c =
    omega (arith, c.pair_start.ensures, c.pair_start-2.ensures, pair_starts_rise c.args.self.now.order.kinds c.args.i (c.args.j - 1) (omega arith))

pub overflow_add-result : goal.overflow_add-result
overflow_add-result c =
    omega (arith, c.pair_start.ensures, c.pair_start-2.ensures, c.cycle_start.ensures, index_small c.args.self.now.order c.args.backward c.args.i c.args.j c.args.k c.requires)

pub overflow_add-result-2 : goal.overflow_add-result-2
overflow_add-result-2 c =
    omega (arith, c.pair_start.ensures, c.pair_start-2.ensures, c.cycle_start.ensures, index_small c.args.self.now.order c.args.backward c.args.i c.args.j c.args.k c.requires)

pub overflow_add-result-3 : goal.overflow_add-result-3
overflow_add-result-3 c =
    omega (arith, c.pair_start.ensures, c.pair_start-2.ensures, c.cycle_start.ensures, index_small c.args.self.now.order c.args.backward c.args.i c.args.j c.args.k c.requires)

pub overflow_add-result-4 : goal.overflow_add-result-4
overflow_add-result-4 c =
    omega (arith, c.pair_start.ensures, c.pair_start-2.ensures, c.cycle_start.ensures, c.from.ensures, index_small c.args.self.now.order c.args.backward c.args.i c.args.j c.args.k c.requires)

pub returns : goal.returns
returns c =
    rising_number c.args.self.now.order c.args.backward c.args.i c.args.j c.args.k _ c.requires
    (omega (arith, c.pair_start.ensures, c.pair_start-2.ensures, c.cycle_start.ensures, c.from.ensures))
