-- What remains to be put into its cells.
use Rattle.std.proofs.Common.{◌≡◌, drop}
use Rattle.std.specs.List.{zip}
use Rattle.bspl_types.specs.Adornment.{valued}
use Rattle.local_store.specs.inner.Grids.{bound}
use Rattle.local_store.proofs.bound_cells.bind_all.Given as goal

-- the pairs that remain give what all give; the grid keeps its size
abbrev pub invariant-loop-c : goal.invariant-loop-c
invariant-loop-c l = record {
  items : bound l.fn.cells.width l.row l.cells.items (zip (valued (drop l.c-index l.carried)) l.remaining) ≡ bound l.fn.cells.width l.row l.fn.cells.items (zip (valued l.carried) l.values);
  width : l.cells.width ≡ l.fn.cells.width;
  rows : l.cells.rows ≡ l.fn.cells.rows;
}
