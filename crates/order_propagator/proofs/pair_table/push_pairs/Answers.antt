-- Each pair is that of the next variable.
use Rattle.std.proofs.Common.{◌≡◌, ◌+◌, ◌∷◌, [], length, ap, arith, length-append}
use Rattle.order_axioms.specs.declared.kind_pair.KindPair.{KindPair}
use Rattle.order_axioms.specs.Order.{pair_variable}
use Rattle.order_propagator.proofs.VariableLemmas.{in_row, next_pair, row_next}
use Rattle.order_propagator.proofs.pair_table.push_pairs.Goals as goal

pub loop-second-preserved : goal.loop-second-preserved
loop-second-preserved c =
    let order = c.args.order in
    let first = c.args.first in
    let second = c.loop-second.second in
    let pair : KindPair = record { first = first; second = second } in
    let after : pair_variable order first (second + 1) ≡ pair_variable order first second + 1 = omega (arith, in_row order first second (omega arith), in_row order first (second + 1) (omega arith)) in
    record {
      pairs = rw c.in_ok-push.ensures.items (next_pair order c.loop-second.pairs.items first second c.loop-second.invariant.pairs (record { from_one = c.requires.from_one; rising = omega arith; up_to = omega arith }) c.loop-second.invariant.next);
      next = omega (arith, after, c.loop-second.invariant.next, ap length c.in_ok-push.ensures.items, length-append c.loop-second.pairs.items (pair ∷ []));
    }

pub returns-clause-next : goal.returns-clause-next
returns-clause-next c =
    let order = c.args.order in
    let first = c.args.first in
    omega (arith, c.loop-second.invariant.next, in_row order first c.loop-second.second (omega arith), row_next order first c.requires.from_one (omega arith))
