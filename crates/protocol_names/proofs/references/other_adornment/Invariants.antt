-- What has been found of the adornments.
use Rattle.std.proofs.Common.{take}
use Rattle.std.specs.List.{zip}
use Rattle.protocol_names.specs.Fault.{AdornmentDiffers}
use Rattle.protocol_names.specs.FaultOrder.{FindsFirst, OfSome}
use Rattle.protocol_names.proofs.references.other_adornment.Given as goal

-- the first fault of those so far
abbrev pub invariant-loop-index : goal.invariant-loop-index
invariant-loop-index l = FindsFirst (OfSome AdornmentDiffers (take l.index (zip l.given l.declared))) l.first
