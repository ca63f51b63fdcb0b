-- One item more, and all of them.
use Rattle.protocol_names.specs.Fault.{IsItemFault}
use Rattle.protocol_names.proofs.FaultOrderLemmas.{finds_all, finds_more}
use Rattle.protocol_names.proofs.items.body_fault.Goals as goal

pub loop-item-preserved : goal.loop-item-preserved
loop-item-preserved c = finds_more (IsItemFault c.args.table.now.protocols.now c.args.names.now) c.args.body.now c.loop-item.item-index c.item-item.result _ _ _ c.loop-item-test.true c.item-item.is c.loop-item.invariant c.item_fault.ensures c.earlier-first.ensures

pub returns : goal.returns
returns c = finds_all (IsItemFault c.args.table.now.protocols.now c.args.names.now) c.args.body.now c.loop-item.item-index c.loop-item.first c.loop-item-test.false c.loop-item.invariant
