-- A parameter's value differs, or leaves the rest to look at.
use Rattle.std.proofs.Common.{◌+◌, ◌*◌, None, ap, sym, ◌∙◌, get_or}
use Rattle.std.proofs.lemmas.Option.{get_or_from_slice_get}
use Rattle.bspl_types.specs.declared.protocol.Adornment.TheVariants.{In}
use Rattle.bspl_types.specs.declared.protocol.Carried.{Carried}
use Rattle.std.specs.List.{zip}
use Rattle.bspl_types.specs.Adornment.{valued}
use Rattle.local_store.specs.inner.Difference.{difference, first_difference}
use Rattle.local_store.specs.inner.Grids.{cell_at}
use Rattle.local_store.proofs.StepLemmas.{agrees_at, bare_at, differs_at}
use Rattle.local_store.proofs.difference.first_difference.Goals as goal
use Rattle.local_store.proofs.difference.first_difference.Goals.{then-has_value+in-Some+else-is_some, else-has_value}

pub returns-then-is_some : goal.returns-then-is_some
returns-then-is_some c =
    let cells = c.args.cells.now in
    let at = cell_at cells.width cells.items c.args.row in
    let blank : Carried = record { param = 0; adornment = In } in
    let p = get_or c.args.carried.now c.loop-c.c-index blank in
    let cell = get_or_from_slice_get cells.items (c.args.row * cells.width + p.param) c.at.result None c.at.ensures in
    differs_at at (first_difference at (zip (valued c.args.carried.now) c.args.values.now)) c.args.carried.now c.loop-c.c-index blank c.in-Some.value.now c.in-Some.rest.now c.loop-c.remaining.now c.difference-found.result c.loop-c-test.true
    (sym c.if-has_value.ensures) c.in-Some.ensures.cases.0
    (c.difference-found.ensures ∙ ap (λ o. difference o (p, c.in-Some.value.now)) (sym cell)) (sym c.if-is_some.ensures) c.loop-c.invariant

pub loop-c-preserved : goal.loop-c-preserved
loop-c-preserved c =
    let cells = c.args.cells.now in
    let at = cell_at cells.width cells.items c.args.row in
    let whole = first_difference at (zip (valued c.args.carried.now) c.args.values.now) in
    let blank : Carried = record { param = 0; adornment = In } in
    let p = get_or c.args.carried.now c.loop-c.c-index blank in
    elim c.if-has_value.branch [
      | then-has_value+in-Some+else-is_some w ↦
          let cell = get_or_from_slice_get cells.items (c.args.row * cells.width + p.param) w.at.result None w.at.ensures in
          rw w.remaining-is (agrees_at at whole c.args.carried.now c.loop-c.c-index blank w.in-Some.value.now w.in-Some.rest.now c.loop-c.remaining.now w.difference-found.result c.loop-c-test.true
          (sym w.if-has_value.ensures) w.in-Some.ensures.cases.0
          (w.difference-found.ensures ∙ ap (λ o. difference o (p, w.in-Some.value.now)) (sym cell)) (sym w.if-is_some.ensures) c.loop-c.invariant)
      | else-has_value w ↦
          rw w.remaining-is (bare_at at whole c.args.carried.now c.loop-c.c-index blank c.loop-c.remaining.now c.loop-c-test.true (sym w.if-has_value.ensures) c.loop-c.invariant)
    ]
