-- One more event has its wait.
use Rattle.list_base.proofs.Zipped.{paired_push}
use Rattle.history_audit.specs.inner.Waits.{IsWait}
use Rattle.history_audit.proofs.waits.waits_of.Goals as goal

pub loop-event-preserved : goal.loop-event-preserved
loop-event-preserved c =
    rw c.in_ok-push.ensures.ok (paired_push (IsWait c.args.x.now c.args.indices.now) c.args.history.now c.loop-event.waits c.loop-event.event-index c.event-item.result c.wait_of.result c.loop-event-test.true c.event-item.is c.loop-event.invariant c.wait_of.ensures)
