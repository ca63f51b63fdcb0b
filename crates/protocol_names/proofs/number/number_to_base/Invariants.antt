-- The number of the bytes so far.
use Rattle.std.proofs.Common.{◌≡◌, take}
use Rattle.protocol_names.specs.inner.IndexMap.{number_to_base}
use Rattle.protocol_names.proofs.number.number_to_base.Given as goal

abbrev pub invariant-loop-byte : goal.invariant-loop-byte
invariant-loop-byte l = l.number ≡ number_to_base (take l.byte-index l.bytes)
