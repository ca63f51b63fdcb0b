-- One clause more is appended.
use Rattle.std.proofs.Common.{◌<◌, length, arith}
use Rattle.order_axioms.specs.Order.{order_list}
use Rattle.order_axioms.proofs.NumberLemmas.{copied_next}
use Rattle.order_axioms.proofs.order_numbers.OrderNumbers.push_all.Goals as goal

pub loop-index-preserved : goal.loop-index-preserved
loop-index-preserved c =
    let all = order_list c.args.self.now.order in
    let within : c.loop-index.index < length all = omega (arith, c.loop-index-test.true, c.count-index-end.ensures) in
    copied_next all c.args.clauses.now c.loop-index.clauses c.push.new.self c.loop-index.index c.in_ok-stored.field-0 within c.loop-index.invariant
    (rw c.in_ok-stored.ensures c.clause.ensures.number) c.in_ok-push.ensures.ok
