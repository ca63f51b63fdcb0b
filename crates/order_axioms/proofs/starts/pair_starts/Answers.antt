-- One start more.
use Rattle.std.proofs.Common.{arith}
use Rattle.order_axioms.specs.inner.Starts.{pair_start}
use Rattle.order_axioms.proofs.StartLemmas.{pair_start_next, starts_next}
use Rattle.order_axioms.proofs.starts.pair_starts.Goals as goal

pub loop-kind-preserved : goal.loop-kind-preserved
loop-kind-preserved c =
    let next = pair_start_next c.args.kinds c.loop-kind.kind c.loop-kind.start (omega arith) c.loop-kind.invariant.last in
    record {
      starts = starts_next (pair_start c.args.kinds) c.loop-kind.kind _ _ _ c.loop-kind.invariant.starts next c.in_ok-push-2.ensures.items;
      last = next;
      small = omega arith;
    }
