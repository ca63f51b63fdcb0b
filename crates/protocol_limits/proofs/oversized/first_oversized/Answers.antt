-- The protocols of the order, one after another.
use Rattle.std.proofs.Common.{◌≡◌, ◌+◌, ℕ, List, Option, None, get_or, set, length, sym, ap, ◌∙◌, subst, arith, length-set}
use Rattle.std.proofs.lemmas.List.{get_or_read}
use Rattle.std.proofs.lemmas.Option.{slice_get-get_or}
use Rattle.bspl_parser.specs.declared.document.Item.{Item}
use Rattle.list_base.proofs.Tables.{AreFilled, AreFilled-more}
use Rattle.protocol_limits.specs.Counts.{first_oversized}
use Rattle.protocol_limits.specs.inner.Oversized.{first_oversized_in}
use Rattle.protocol_limits.proofs.OversizedOrder.{first_is, found_is, node_within, oversized_at}
use Rattle.protocol_limits.proofs.oversized.first_oversized.Goals as goal

pub bounds-protocols-number : goal.bounds-protocols-number
bounds-protocols-number c = node_within c.document.inside.table.now.protocols.now c.document.inside.order.now c.document.inside.top c.loop-number.number-index c.document.invariant.is_order c.loop-number-test.true

pub index_mut-requires : goal.index_mut-requires
index_mut-requires c =
    let within = node_within c.document.inside.table.now.protocols.now c.document.inside.order.now c.document.inside.top c.loop-number.number-index c.document.invariant.is_order c.loop-number-test.true in
    omega (arith, within, c.loop-number.invariant.fits, c.loop-number.counts.ok.0)

pub loop-number-preserved : goal.loop-number-preserved
loop-number-preserved c =
    let protocols = c.document.inside.table.now.protocols.now in
    let order = c.document.inside.order.now in
    let counts = c.loop-number.counts.items in
    let i = c.loop-number.number-index in
    let a = get_or order i 0 in
    let p = get_or protocols a c.index-protocols-number.result in
    let f = oversized_at protocols (length protocols) in
    let at = slice_get-get_or order i 0 c.loop-number-test.true in
    let within = node_within protocols order c.document.inside.top i c.document.invariant.is_order c.loop-number-test.true in
    let stands = slice_get-get_or protocols a c.index-protocols-number.result within in
    let is : c.first_oversized_in-found.result ≡ f a =
    c.first_oversized_in-found.ensures
    ∙ ap (λ (xs : List (Option ℕ)). first_oversized_in protocols (λ k. get_or xs k None) c.as_slice-body.result.now) c.deref.ensures.value
    ∙ ap (λ (body : List Item). first_oversized_in protocols (λ k. get_or counts k None) body) c.as_slice-body.ensures
    ∙ found_is c.orders_are_short.ensures protocols order counts i a p c.document.invariant.is_order.topological at stands c.loop-number.invariant.found in
    record {
      fits = length-set counts a c.first_oversized_in-found.result ∙ c.loop-number.invariant.fits;
      found = subst (λ n. AreFilled None f order (set counts a n) (i + 1)) (sym is)
          (AreFilled-more None f order counts i a at (omega (arith, within, c.loop-number.invariant.fits)) c.loop-number.invariant.found);
    }

pub returns : goal.returns
returns c =
    let inside = c.document.inside in
    subst (λ d. c.index.result.now ≡ first_oversized d.protocols d.top) c.document.view_is
    (get_or_read c.loop-number.counts.items inside.top c.index.result.now (omega (arith, c.document.invariant.declared, c.loop-number.invariant.fits)) c.index.ensures None
    ∙ first_is inside.table.now.protocols.now inside.order.now c.loop-number.counts.items c.loop-number.number-index inside.top c.document.invariant.is_order c.loop-number-test.false c.loop-number.invariant.found)
