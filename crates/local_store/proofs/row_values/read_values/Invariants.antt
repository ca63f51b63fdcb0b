-- The values that were read, and those that remain.
use Rattle.std.proofs.Common.{◌≡◌, ◌≤◌, ◌++◌, drop, map, take}
use Rattle.bspl_types.specs.Adornment.{valued}
use Rattle.local_store.specs.inner.Acts.{value_in}
use Rattle.local_store.specs.inner.Grids.{cell_at}
use Rattle.local_store.proofs.row_values.read_values.Given as goal

abbrev pub invariant-loop-c : goal.invariant-loop-c
invariant-loop-c l = record {
  few : l.count ≤ l.c-index;
  read : take l.count l.values ++ map (λ c. value_in (cell_at l.cells.width l.cells.items l.row c.param)) (valued (drop l.c-index l.carried)) ≡ map (λ c. value_in (cell_at l.cells.width l.cells.items l.row c.param)) (valued l.carried);
}
