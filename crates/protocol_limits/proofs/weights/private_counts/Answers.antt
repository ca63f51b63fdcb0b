-- The weights are those of the document's graph.
use Rattle.std.proofs.Common.{subst, ◌∙◌}
use Rattle.std.specs.Prelude.{IfOk}
use Rattle.protocol_limits.specs.Counts.{private_count, own_privates}
use Rattle.protocol_limits.specs.inner.SortedDocument.{AreCounts}
use Rattle.protocol_limits.proofs.OrderLemmas.{privates_found, weights_fit}
use Rattle.protocol_limits.proofs.weights.private_counts.Goals as goal

pub weights_below-requires-clause-weights : goal.weights_below-requires-clause-weights
weights_below-requires-clause-weights c =
    let inside = c.document.inside in
    weights_fit own_privates inside.table.now.protocols.now inside.graph.now c.as_slice.result.now c.document.invariant.is_graph (c.as_slice.ensures ∙ c.in_ok-own.ensures)

pub returns : goal.returns
returns c =
    let inside = c.document.inside in
    subst (λ d. IfOk c.weights_below.result (AreCounts (private_count d.protocols) d.order)) c.document.view_is
    (privates_found inside.table.now.protocols.now inside.graph.now inside.order.now c.as_slice.result.now c.weights_below.result c.document.invariant.is_graph (c.as_slice.ensures ∙ c.in_ok-own.ensures) c.weights_below.ensures)
