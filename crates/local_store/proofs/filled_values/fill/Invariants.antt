-- The values that were filled in, and those that remain.
use Rattle.std.proofs.Common.{◌≡◌, ℕ, ◌≤◌, ◌++◌, drop, take}
use Rattle.local_store.specs.inner.Acts.{value_in}
use Rattle.local_store.specs.inner.FilledValues.{filled, key_value}
use Rattle.local_store.specs.inner.Grids.{cell_at}
use Rattle.local_store.proofs.filled_values.fill.Given as goal

abbrev pub invariant-loop-c : goal.invariant-loop-c
invariant-loop-c l =
    let known = λ (p : ℕ). value_in (cell_at l.cells.width l.cells.items l.row p) in
    record {
      few : l.count ≤ l.c-index;
      fewer : l.used ≤ l.c-index;
      filled : take l.count l.values ++ filled known (key_value l.keys l.key) l.outs (drop l.c-index l.carried) l.used ≡ filled known (key_value l.keys l.key) l.outs l.carried 0;
    }
