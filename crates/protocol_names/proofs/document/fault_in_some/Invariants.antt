-- What has been found of the protocols.
use Rattle.std.proofs.Common.{take}
use Rattle.protocol_names.specs.Fault.{IsFaultIn}
use Rattle.protocol_names.specs.FaultOrder.{FindsFirst, OfSome}
use Rattle.protocol_names.proofs.document.fault_in_some.Given as goal

-- the first fault of those so far
abbrev pub invariant-loop-protocol : goal.invariant-loop-protocol
invariant-loop-protocol l = FindsFirst (OfSome (IsFaultIn l.table.protocols.now) (take l.protocol-index l.protocols)) l.first
