-- An order leaves no cycle.
use Rattle.std.proofs.Common.{subst}
use Rattle.protocol_limits.specs.Survey.{IsUnrolled}
use Rattle.protocol_limits.proofs.UnrolledLemmas.{unrolled_of_order}
use Rattle.protocol_limits.proofs.precheck.no_cycle.Goals as goal

pub returns : goal.returns
returns c =
    let inside = c.document.inside in
    subst (λ d. IsUnrolled d.protocols d.top) c.document.view_is
    (unrolled_of_order c.orders_have_no_cycle.ensures inside.table.now.protocols.now inside.top inside.order.now c.document.invariant.is_order)
