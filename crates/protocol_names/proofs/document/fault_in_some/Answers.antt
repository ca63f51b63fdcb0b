-- One protocol more, and all of them.
use Rattle.protocol_names.specs.Fault.{IsFaultIn}
use Rattle.protocol_names.proofs.FaultOrderLemmas.{finds_all, finds_more}
use Rattle.protocol_names.proofs.document.fault_in_some.Goals as goal

pub loop-protocol-preserved : goal.loop-protocol-preserved
loop-protocol-preserved c = finds_more (IsFaultIn c.args.table.now.protocols.now) c.args.protocols.now c.loop-protocol.protocol-index c.protocol-item.result _ _ _ c.loop-protocol-test.true c.protocol-item.is c.loop-protocol.invariant c.in_ok-fault_in.ensures c.earlier-first.ensures

pub returns : goal.returns
returns c = finds_all (IsFaultIn c.args.table.now.protocols.now) c.args.protocols.now c.loop-protocol.protocol-index c.loop-protocol.first c.loop-protocol-test.false c.loop-protocol.invariant
