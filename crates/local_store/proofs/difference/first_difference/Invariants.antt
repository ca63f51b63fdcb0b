-- The first difference is among the pairs that remain.
use Rattle.std.proofs.Common.{◌≡◌, drop}
use Rattle.std.specs.List.{zip}
use Rattle.bspl_types.specs.Adornment.{valued}
use Rattle.local_store.specs.inner.Difference.{first_difference}
use Rattle.local_store.specs.inner.Grids.{cell_at}
use Rattle.local_store.proofs.difference.first_difference.Given as goal

abbrev pub invariant-loop-c : goal.invariant-loop-c
invariant-loop-c l = first_difference (cell_at l.cells.width l.cells.items l.row) (zip (valued (drop l.c-index l.carried)) l.remaining) ≡ first_difference (cell_at l.cells.width l.cells.items l.row) (zip (valued l.carried) l.values)
