-- The starts so far, and the last of them.
use Rattle.std.proofs.Common.{◌≡◌, ◌-◌, ◌*◌, ◌≤◌, map}
use Rattle.std.specs.List.{range_with_len}
use Rattle.order_axioms.specs.inner.Starts.{pair_start}
use Rattle.order_axioms.proofs.starts.pair_starts.Given as goal

abbrev pub invariant-loop-kind : goal.invariant-loop-kind
invariant-loop-kind l = record {
  starts : l.starts.items ≡ map (pair_start l.kinds) (range_with_len 0 l.kind);
  last : l.start ≡ pair_start l.kinds (l.kind - 1);
  small : l.start ≤ 256 * (l.kind - 1);
}
