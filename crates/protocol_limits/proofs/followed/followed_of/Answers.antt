-- The protocols of the order are judged, one after another.
use Rattle.std.proofs.Common.{get_or, ◌∙◌, arith, length-set, subst, sym}
use Rattle.std.specs.Prelude.{IfOk, not}
use Rattle.std.proofs.lemmas.Option.{slice_get-get_or}
use Rattle.protocol_limits.specs.Graph.{graph_of}
use Rattle.protocol_limits.specs.Reported.{AreFollowed}
use Rattle.protocol_limits.specs.inner.SortedDocument.{AreCounts}
use Rattle.list_base.proofs.Tables.{holds_of_list}
use Rattle.protocol_limits.proofs.FollowedLemmas.{all_skipped, one_skipped}
use Rattle.protocol_limits.proofs.OversizedOrder.{node_within}
use Rattle.protocol_limits.proofs.followed.followed_of.Goals as goal

pub index_mut-requires : goal.index_mut-requires
index_mut-requires c =
    let within = node_within c.document.inside.table.now.protocols.now c.document.inside.order.now c.document.inside.top c.loop-number.number-index c.document.invariant.is_order c.loop-number-test.true in
    omega (arith, within, c.loop-number.invariant.fits, c.loop-number.followed.ok.0)

pub loop-number-preserved : goal.loop-number-preserved
loop-number-preserved c =
    let order = c.document.inside.order.now in
    let followed = c.loop-number.followed.items in
    let i = c.loop-number.number-index in
    let a = get_or order i 0 in
    let within = node_within c.document.inside.table.now.protocols.now order c.document.inside.top i c.document.invariant.is_order c.loop-number-test.true in
    record {
      fits = length-set followed a (not c.is_nothing.result) ∙ c.loop-number.invariant.fits;
      skipped = one_skipped order c.args.counts.now followed i a c.is_nothing.result (slice_get-get_or order i 0 c.loop-number-test.true) (omega (arith, within, c.loop-number.invariant.fits)) c.is_nothing.ensures c.loop-number.invariant.skipped;
    }

pub returns : goal.returns
returns c count are =
    let inside = c.document.inside in
    let protocols = inside.table.now.protocols.now in
    let counted = subst (λ d. AreCounts count d.order c.args.counts.now) (sym c.document.view_is) are in
    subst (λ d. IfOk c.from_slice.result (AreFollowed (graph_of d.protocols) d.top count)) c.document.view_is
    (holds_of_list c.from_slice.result c.loop-number.followed.items (AreFollowed (graph_of protocols) inside.top count) c.from_slice.ensures c.deref.ensures.value
    (all_skipped c.orders_have_the_reached.ensures (graph_of protocols) inside.top count inside.order.now c.args.counts.now c.loop-number.followed.items c.loop-number.number-index c.document.invariant.is_order c.loop-number-test.false counted c.loop-number.invariant.skipped))
