-- Each step keeps the order closed up to the head.
use Rattle.order_propagator.specs.inner.Making.{Makes}
use Rattle.order_propagator.proofs.GrowthLemmas.{Grows-more, Grows-none, Makes-none, Makes-propagates}
use Rattle.order_propagator.proofs.RowLemmas.{closing-grows}
use Rattle.order_propagator.proofs.closing.close_all.Goals as goal
use Rattle.order_propagator.proofs.closing.close_all.Goals.{then-head-len+in_ok-propagate+else-head-len-2, else-head-len}

pub loop-head-init : goal.loop-head-init
loop-head-init c = record { closing = c.requires; grows = Grows-none _ _ }

pub returns-in_err-propagate-clause-closing : goal.returns-in_err-propagate-clause-closing
returns-in_err-propagate-clause-closing c = closing-grows _ _ c.loop-head.named c.propagate.new.self c.loop-head.head
    (Makes-propagates _ c.loop-head.named c.propagate.new.self c.loop-head.invariant.closing.can c.propagate.ensures.propagates c.propagate.ensures.names c.propagate.ensures.sound) c.loop-head.invariant.closing

pub returns-in_err-propagate-clause-grows : goal.returns-in_err-propagate-clause-grows
returns-in_err-propagate-clause-grows c = Grows-more _ _ c.loop-head.named _ c.loop-head.invariant.grows
    (Makes-propagates _ c.loop-head.named c.propagate.new.self c.loop-head.invariant.closing.can c.propagate.ensures.propagates c.propagate.ensures.names c.propagate.ensures.sound).grows

pub returns-then-head-len-2-clause-closing : goal.returns-then-head-len-2-clause-closing
returns-then-head-len-2-clause-closing c = closing-grows _ _ c.loop-head.named c.propagate.new.self c.loop-head.head
    (Makes-propagates _ c.loop-head.named c.propagate.new.self c.loop-head.invariant.closing.can c.propagate.ensures.propagates c.propagate.ensures.names c.propagate.ensures.sound) c.loop-head.invariant.closing

pub close_head-requires-clause-closing : goal.close_head-requires-clause-closing
close_head-requires-clause-closing c = elim c.if-head-len.branch [
  | then-head-len+in_ok-propagate+else-head-len-2 w ↦
      rw w.named-is (closing-grows _ _ c.loop-head.named w.propagate.new.self c.loop-head.head
      (Makes-propagates _ c.loop-head.named w.propagate.new.self c.loop-head.invariant.closing.can w.propagate.ensures.propagates w.propagate.ensures.names w.propagate.ensures.sound) c.loop-head.invariant.closing)
  | else-head-len w ↦ rw w.named-is c.loop-head.invariant.closing
]

pub loop-head-preserved : goal.loop-head-preserved
loop-head-preserved c =
    let so_far : Makes c.args.numbers.now.order c.loop-head.named c.if-head-len.named = elim c.if-head-len.branch [
      | then-head-len+in_ok-propagate+else-head-len-2 w ↦
          rw w.named-is (Makes-propagates _ c.loop-head.named w.propagate.new.self c.loop-head.invariant.closing.can w.propagate.ensures.propagates w.propagate.ensures.names w.propagate.ensures.sound)
      | else-head-len w ↦ rw w.named-is (Makes-none _ _ c.loop-head.invariant.closing.can)
    ] in
    record {
      closing = record {
        can = c.close_head.ensures.closing.can;
        closed = c.in_ok-close_head.ensures.next;
        first = c.close_head.ensures.closing.first;
      };
      grows = Grows-more _ _ c.if-head-len.named _ (Grows-more _ _ c.loop-head.named _ c.loop-head.invariant.grows so_far.grows) c.close_head.ensures.grows;
    }

pub returns-in_err-close_head-clause-grows : goal.returns-in_err-close_head-clause-grows
returns-in_err-close_head-clause-grows c =
    let so_far : Makes c.args.numbers.now.order c.loop-head.named c.if-head-len.named = elim c.if-head-len.branch [
      | then-head-len+in_ok-propagate+else-head-len-2 w ↦
          rw w.named-is (Makes-propagates _ c.loop-head.named w.propagate.new.self c.loop-head.invariant.closing.can w.propagate.ensures.propagates w.propagate.ensures.names w.propagate.ensures.sound)
      | else-head-len w ↦ rw w.named-is (Makes-none _ _ c.loop-head.invariant.closing.can)
    ] in
    Grows-more _ _ c.if-head-len.named _ (Grows-more _ _ c.loop-head.named _ c.loop-head.invariant.grows so_far.grows) c.close_head.ensures.grows
