-- One parameter more.
use Rattle.protocol_expand.specs.FlatExpansion.{IsCarried}
use Rattle.list_base.proofs.Zipped.{paired_more}
use Rattle.protocol_expand.proofs.messages.all_carried.Goals as goal

pub loop-formal-preserved : goal.loop-formal-preserved
loop-formal-preserved c =
    paired_more (IsCarried c.args.params.now) c.args.formals.now c.loop-formal.all c.push.new.self c.loop-formal.formal-index c.formal-item.result _
    c.loop-formal-test.true c.formal-item.is c.loop-formal.invariant c.carried.ensures c.in_ok-push.ensures.ok
