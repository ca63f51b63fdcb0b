-- One more value was read.
use Rattle.std.proofs.Common.{◌+◌, ◌*◌, ◌<◌, map, take, length, arith, None, ap, sym, ◌∙◌, get_or}
use Rattle.std.proofs.lemmas.Option.{get_or_from_slice_get}
use Rattle.bspl_types.specs.declared.protocol.Adornment.TheVariants.{In}
use Rattle.bspl_types.specs.declared.protocol.Carried.{Carried}
use Rattle.bspl_types.specs.Adornment.{valued}
use Rattle.local_store.specs.inner.Acts.{value_in}
use Rattle.local_store.specs.inner.Grids.{cell_at}
use Rattle.local_store.proofs.StepLemmas.{read_more, read_same}
use Rattle.local_store.proofs.row_values.read_values.Goals as goal
use Rattle.local_store.proofs.row_values.read_values.Goals.{then-has_value, else-has_value}

pub loop-c-preserved : goal.loop-c-preserved
loop-c-preserved c =
    let cells = c.args.cells.now in
    let g = λ (p : Carried). value_in (cell_at cells.width cells.items c.args.row p.param) in
    let blank : Carried = record { param = 0; adornment = In } in
    let p = get_or c.args.carried.now c.loop-c.c-index blank in
    let inv = c.loop-c.invariant in
    elim c.if-has_value.branch [
      | then-has_value w ↦
          let cell = get_or_from_slice_get cells.items (c.args.row * cells.width + p.param) w.at.result None w.at.ensures in
          let room : c.loop-c.count < length c.loop-c.values = omega arith in
          record {
            few = omega (arith, w.count-is);
            read = rw (w.count-is, w.values-is) (read_more g c.args.carried.now c.loop-c.c-index blank c.loop-c.values c.loop-c.count w.value_in.result c.loop-c-test.true (sym w.if-has_value.ensures) room (w.value_in.ensures ∙ ap value_in (sym cell)) inv.read);
          }
      | else-has_value w ↦ record {
        few = omega (arith, w.count-is);
        read = rw (w.count-is, w.values-is) (read_same g c.args.carried.now c.loop-c.c-index blank (take c.loop-c.count c.loop-c.values) (map g (valued c.args.carried.now)) c.loop-c-test.true (sym w.if-has_value.ensures) inv.read);
      }
    ]
