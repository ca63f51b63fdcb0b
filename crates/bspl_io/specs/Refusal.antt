-- What a whole text's writing answers for a piece that was not written.
use Rattle.bspl_io.specs.declared.sink.Trouble.{Trouble}
use Rattle.bspl_io.specs.declared.sink.Trouble.TheVariants as troubles
use Rattle.bspl_io.specs.declared.sink.WriteRefusal.{WriteRefusal}
use Rattle.bspl_io.specs.declared.sink.WriteRefusal.TheVariants.{WriteFault, NoMemory}

-- a failure is a fault, and out of memory stays out of memory
abbrev pub write_refusal : Trouble → WriteRefusal
write_refusal troubles.Failed = WriteFault
write_refusal troubles.NoMemory = NoMemory
