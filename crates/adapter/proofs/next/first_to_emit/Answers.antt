-- The message at the index is ready or passed over.
use Rattle.std.proofs.Common.{sym, subst, take, get_or, All}
use Rattle.std.proofs.lemmas.List.{take_all, take_more}
use Rattle.std.proofs.lemmas.List.Elements.{All-push}
use Rattle.local_store.specs.State.{key_at}
use Rattle.adapter.specs.Next.{IsPassedOver}
use Rattle.adapter.proofs.NextLemmas.{first_at}
use Rattle.adapter.proofs.next.first_to_emit.Goals as goal

pub returns-then-can_emit_next : goal.returns-then-can_emit_next
returns-then-can_emit_next c =
    first_at c.args.script.now c.args.store.now c.args.n (key_at c.args.store.now c.args.row) c.args.order.now c.loop-m.m-index
    c.loop-m-test.true c.loop-m.invariant (c.can_emit_next.ensures.next c.if-can_emit_next.true)

pub loop-m-preserved : goal.loop-m-preserved
loop-m-preserved c =
    let passed = IsPassedOver c.args.script.now c.args.store.now c.args.n (key_at c.args.store.now c.args.row) in
    subst (All passed) (sym (take_more c.args.order.now c.loop-m.m-index 0 c.loop-m-test.true))
    (All-push passed (take c.loop-m.m-index c.args.order.now) (get_or c.args.order.now c.loop-m.m-index 0) c.loop-m.invariant (c.can_emit_next.ensures.passed c.if-can_emit_next.false))

pub returns : goal.returns
returns c =
    subst (All (IsPassedOver c.args.script.now c.args.store.now c.args.n (key_at c.args.store.now c.args.row)))
    (take_all c.loop-m.m-index c.args.order.now c.loop-m-test.false) c.loop-m.invariant
