-- The keys that were passed are bound.
use Rattle.std.proofs.Common.{take}
use Rattle.std.specs.List.{All}
use Rattle.bspl_types.specs.Adornment.{Binds}
use Rattle.protocol_expand.proofs.message_fault.first_missing.Given as goal

abbrev pub invariant-loop-key : goal.invariant-loop-key
invariant-loop-key l = All (Binds l.carried) (take l.key-index l.keys)
