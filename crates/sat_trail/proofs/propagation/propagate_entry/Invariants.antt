-- The walk has come to the number.
use Rattle.std.proofs.Common.{◌≡◌, length}
use Rattle.sat_trail.proofs.WalkLemmas.{IsWalking}
use Rattle.sat_trail.proofs.propagation.propagate_entry.Given as goal

abbrev pub invariant-loop-passed : goal.invariant-loop-passed
invariant-loop-passed l = record {
  walking : IsWalking l.store l.fn.set l.set l.lists.cells.items l.lists.heads.items l.level l.position l.lit l.before l.number l._passed;
  cells : length l.lists.cells.items ≡ l._passed-end;
}
