-- The parameters that were passed are distinct.
use Rattle.std.proofs.Common.{take}
use Rattle.protocol_expand.specs.NotAdmitted.{HasDistinctParams}
use Rattle.protocol_expand.proofs.message_fault.first_repeated.Given as goal

abbrev pub invariant-loop-index : goal.invariant-loop-index
invariant-loop-index l = HasDistinctParams (take l.index l.carried)
