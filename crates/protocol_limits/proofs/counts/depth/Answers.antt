-- The depth of the top stands at its number.
use Rattle.std.proofs.Common.{◌≡◌, subst}
use Rattle.protocol_limits.specs.Counts.{depth}
use Rattle.protocol_limits.proofs.OrderLemmas.{depth_found}
use Rattle.protocol_limits.proofs.counts.depth.Goals as goal

pub returns : goal.returns
returns c =
    let inside = c.document.inside in
    subst (λ d. c.at.result.now ≡ depth d.protocols d.top) c.document.view_is
    (depth_found inside.table.now.protocols.now inside.graph.now inside.order.now _ inside.top c.at.result.now c.document.invariant.is_graph c.document.invariant.is_order c.in_ok-depths.ensures c.at.ensures)
