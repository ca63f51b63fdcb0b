-- What has been found of the parameters.
use Rattle.std.proofs.Common.{take}
use Rattle.protocol_names.specs.Fault.{IsUnsupported}
use Rattle.protocol_names.specs.FaultOrder.{FindsFirst, OfSome}
use Rattle.protocol_names.proofs.params.public_fault.Given as goal

-- the first fault of those so far
abbrev pub invariant-loop-formal : goal.invariant-loop-formal
invariant-loop-formal l = FindsFirst (OfSome IsUnsupported (take l.formal-index l.formals)) l.first
