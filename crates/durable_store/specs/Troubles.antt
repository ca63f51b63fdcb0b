-- What a trouble of the disk makes of a call.
use Rattle.bspl_io.specs.declared.sink.Trouble.{Trouble}
use Rattle.bspl_io.specs.declared.sink.Trouble.TheVariants.{Failed, NoMemory}
use Rattle.durable_store.specs.declared.refusals.EmitRefusal.{EmitRefusal}
use Rattle.durable_store.specs.declared.refusals.EmitRefusal.TheVariants as emits
use Rattle.durable_store.specs.declared.refusals.ReceiveRefusal.{ReceiveRefusal}
use Rattle.durable_store.specs.declared.refusals.ReceiveRefusal.TheVariants as receives

-- of an emission: a failure is a fault of the disk, and out of memory stays out of memory
abbrev pub emit_refusal : Trouble → EmitRefusal
emit_refusal Failed = emits.DiskFault
emit_refusal NoMemory = emits.NoMemory

-- of a receipt
abbrev pub receive_refusal : Trouble → ReceiveRefusal
receive_refusal Failed = receives.DiskFault
receive_refusal NoMemory = receives.NoMemory
