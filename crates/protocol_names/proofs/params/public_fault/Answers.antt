-- One parameter more, and all of them.
use Rattle.protocol_names.specs.Fault.{IsUnsupported}
use Rattle.protocol_names.proofs.FaultOrderLemmas.{finds_all, finds_more}
use Rattle.protocol_names.proofs.params.public_fault.Goals as goal

pub loop-formal-preserved : goal.loop-formal-preserved
loop-formal-preserved c = finds_more IsUnsupported c.args.formals.now c.loop-formal.formal-index c.formal-item.result _ _ _ c.loop-formal-test.true c.formal-item.is c.loop-formal.invariant c.unsupported_fault.ensures c.earlier-first.ensures

pub returns : goal.returns
returns c = finds_all IsUnsupported c.args.formals.now c.loop-formal.formal-index c.loop-formal.first c.loop-formal-test.false c.loop-formal.invariant
