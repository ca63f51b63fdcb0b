-- One more value was filled in.
use Rattle.std.proofs.Common.{◌+◌, ◌*◌, ◌<◌, ℕ, take, length, arith, None, ap, sym, ◌∙◌, get_or}
use Rattle.std.proofs.lemmas.Option.{get_or_from_slice_get}
use Rattle.bspl_types.specs.declared.protocol.Adornment.TheVariants.{In}
use Rattle.bspl_types.specs.declared.protocol.Carried.{Carried}
use Rattle.local_store.specs.inner.Acts.{value_in}
use Rattle.local_store.specs.inner.FilledValues.{filled, filling, key_value}
use Rattle.local_store.specs.inner.Grids.{cell_at}
use Rattle.local_store.proofs.StepLemmas.{filled_more, filled_same}
use Rattle.local_store.proofs.filled_values.fill.Goals as goal
use Rattle.local_store.proofs.filled_values.fill.Goals.{then-has_value, else-has_value}

pub loop-c-preserved : goal.loop-c-preserved
loop-c-preserved c =
    let cells = c.args.cells.now in
    let known = λ (p : ℕ). value_in (cell_at cells.width cells.items c.args.row p) in
    let of_key = key_value c.args.keys.now c.args.key.now in
    let blank : Carried = record { param = 0; adornment = In } in
    let p = get_or c.args.carried.now c.loop-c.c-index blank in
    let inv = c.loop-c.invariant in
    let whole = filled known of_key c.args.outs.now c.args.carried.now 0 in
    elim c.if-has_value.branch [
      | then-has_value w ↦
          let cell = get_or_from_slice_get cells.items (c.args.row * cells.width + p.param) w.at.result None w.at.ensures in
          let next = w.filling-next.ensures.value ∙ (λ i. filling p.adornment ((w.value_in-known.ensures ∙ ap value_in (sym cell)) i) (w.key_value.ensures i) (w.chosen_at.ensures i)) in
          let room : c.loop-c.count < length c.loop-c.values = omega arith in
          record {
            few = omega (arith, w.count-is);
            fewer = omega (arith, w.used-is, w.filling-next.ensures.one);
            filled = rw (w.count-is, w.values-is, w.used-is) (filled_more known of_key c.args.outs.now c.args.carried.now c.loop-c.c-index blank c.loop-c.values c.loop-c.count c.loop-c.used w.filling-next.result whole c.loop-c-test.true (sym w.if-has_value.ensures) room next inv.filled);
          }
      | else-has_value w ↦ record {
        few = omega (arith, w.count-is);
        fewer = omega (arith, w.used-is);
        filled = rw (w.count-is, w.values-is, w.used-is) (filled_same known of_key c.args.outs.now c.args.carried.now c.loop-c.c-index blank (take c.loop-c.count c.loop-c.values) c.loop-c.used whole c.loop-c-test.true (sym w.if-has_value.ensures) inv.filled);
      }
    ]
