-- The first block is among the parameters that remain.
use Rattle.std.proofs.Common.{◌≡◌, drop}
use Rattle.local_store.specs.inner.Blocks.{first_block}
use Rattle.local_store.specs.inner.Grids.{cell_at}
use Rattle.local_store.proofs.block.first_block.Given as goal

abbrev pub invariant-loop-c : goal.invariant-loop-c
invariant-loop-c l = first_block (cell_at l.cells.width l.cells.items l.row) (drop l.c-index l.carried) ≡ first_block (cell_at l.cells.width l.cells.items l.row) l.carried
