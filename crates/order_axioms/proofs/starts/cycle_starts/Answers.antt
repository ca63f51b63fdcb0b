-- One start more.
use Rattle.std.proofs.Common.{arith}
use Rattle.order_axioms.specs.inner.Starts.{cycle_start}
use Rattle.order_axioms.proofs.StartLemmas.{cycle_start_next, pair_at, pair_start_small, pair_starts_rise, pairs_many, starts_next}
use Rattle.order_axioms.proofs.starts.cycle_starts.Goals as goal

pub bounds-pairs-kinds : goal.bounds-pairs-kinds
bounds-pairs-kinds c = omega (arith, pairs_many c.args.kinds c.args.pairs.now c.requires.pairs)

pub bounds-pairs-kind : goal.bounds-pairs-kind
bounds-pairs-kind c = omega (arith, pairs_many c.args.kinds c.args.pairs.now c.requires.pairs)

pub overflow_sub-start : goal.overflow_sub-start
overflow_sub-start c =
    let kinds = c.args.kinds in
    let kind = c.loop-kind.kind in
    let pairs = c.args.pairs.now in
    omega (arith, pair_at kinds kinds pairs 0 c.requires.pairs (omega arith), pair_at kinds kind pairs 0 c.requires.pairs (omega arith), pair_starts_rise kinds kind kinds (omega arith))

pub overflow_add-start : goal.overflow_add-start
overflow_add-start c =
    let kinds = c.args.kinds in
    omega (arith, pair_at kinds kinds c.args.pairs.now 0 c.requires.pairs (omega arith), pair_start_small kinds kinds c.requires.few)

pub loop-kind-preserved : goal.loop-kind-preserved
loop-kind-preserved c =
    let kinds = c.args.kinds in
    let next = cycle_start_next kinds c.loop-kind.kind c.loop-kind.start c.args.pairs.now (omega arith) (omega arith) c.requires.pairs c.loop-kind.invariant.last in
    record {
      starts = starts_next (cycle_start kinds) c.loop-kind.kind _ _ _ c.loop-kind.invariant.starts next c.in_ok-push-2.ensures.items;
      last = next;
      small = omega (arith, pair_at kinds kinds c.args.pairs.now 0 c.requires.pairs (omega arith), pair_start_small kinds kinds c.requires.few);
    }
