-- What has been found of the names.
use Rattle.std.proofs.Common.{take}
use Rattle.protocol_names.specs.Fault.{IsUnknown}
use Rattle.protocol_names.specs.FaultOrder.{FindsFirst, OfSome}
use Rattle.protocol_names.proofs.items.unknown_in.Given as goal

-- the first fault of those so far
abbrev pub invariant-loop-word : goal.invariant-loop-word
invariant-loop-word l = FindsFirst (OfSome (IsUnknown l.declared) (take l.word-index l.words)) l.first
