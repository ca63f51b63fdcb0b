-- A parameter blocks, or leaves the rest to look at.
use Rattle.std.proofs.Common.{◌+◌, ◌*◌, None, ap, sym, ◌∙◌, get_or}
use Rattle.std.proofs.lemmas.Option.{get_or_from_slice_get}
use Rattle.bspl_types.specs.declared.protocol.Adornment.TheVariants.{In}
use Rattle.bspl_types.specs.declared.protocol.Carried.{Carried}
use Rattle.local_store.specs.inner.Blocks.{block_of}
use Rattle.local_store.specs.inner.Grids.{cell_at}
use Rattle.local_store.proofs.StepLemmas.{blocked_at, unblocked_at}
use Rattle.local_store.proofs.block.first_block.Goals as goal

pub returns-then-is_some : goal.returns-then-is_some
returns-then-is_some c =
    let cells = c.args.cells.now in
    let blank : Carried = record { param = 0; adornment = In } in
    let p = get_or c.args.carried.now c.loop-c.c-index blank in
    let cell = get_or_from_slice_get cells.items (c.args.row * cells.width + p.param) c.at.result None c.at.ensures in
    blocked_at (cell_at cells.width cells.items c.args.row) c.args.carried.now c.loop-c.c-index blank c.block_of-found.result c.loop-c-test.true
    (c.block_of-found.ensures ∙ ap (block_of p.adornment p.param) (sym cell)) (sym c.if-is_some.ensures) c.loop-c.invariant

pub loop-c-preserved : goal.loop-c-preserved
loop-c-preserved c =
    let cells = c.args.cells.now in
    let blank : Carried = record { param = 0; adornment = In } in
    let p = get_or c.args.carried.now c.loop-c.c-index blank in
    let cell = get_or_from_slice_get cells.items (c.args.row * cells.width + p.param) c.at.result None c.at.ensures in
    unblocked_at (cell_at cells.width cells.items c.args.row) c.args.carried.now c.loop-c.c-index blank c.block_of-found.result c.loop-c-test.true
    (c.block_of-found.ensures ∙ ap (block_of p.adornment p.param) (sym cell)) (sym c.if-is_some.ensures) c.loop-c.invariant
