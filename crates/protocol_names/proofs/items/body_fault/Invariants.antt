-- What has been found of the body.
use Rattle.std.proofs.Common.{take}
use Rattle.protocol_names.specs.Fault.{IsItemFault}
use Rattle.protocol_names.specs.FaultOrder.{FindsFirst, OfSome}
use Rattle.protocol_names.proofs.items.body_fault.Given as goal

-- the first fault of the items so far
abbrev pub invariant-loop-item : goal.invariant-loop-item
invariant-loop-item l = FindsFirst (OfSome (IsItemFault l.table.protocols.now l.names) (take l.item-index l.body)) l.first
