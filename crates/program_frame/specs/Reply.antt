-- How far a reply came.
use Rattle.std.specs.Prelude.{◌≡◌, ℕ, List, Option, Result, Ok, Err}
use Rattle.std.specs.Io.KnownBytes.{Appends}
use Rattle.bspl_io.specs.Sink.{AppendsPrefix}
use Rattle.list_base.specs.declared.memory.NoMemory.{NoMemory as OutOfMemory}
use Rattle.program_frame.specs.declared.ending.Ending.{Ending}
use Rattle.program_frame.specs.declared.ending.Ending.TheVariants.{Answered, ReadFault, WriteFault, NoMemory}
use Rattle.program_frame.specs.declared.reply.Reply.{Reply}

-- its text was written whole, and the call ends with its status, or a prefix of it was written;
-- without a reply nothing was written
abbrev pub IsWritten : {S : Type 0} → Result (Reply S) OutOfMemory → Option (List ℕ)
    → Option (List ℕ) → Ending S → Type 0
IsWritten (Ok reply) old new (Answered end) = (end ≡ reply.status) × Appends old new reply.text
IsWritten (Ok reply) old new ReadFault = ⊥
IsWritten (Ok reply) old new WriteFault = AppendsPrefix old new reply.text
IsWritten (Ok reply) old new NoMemory = AppendsPrefix old new reply.text
IsWritten (Err e) old new ending = (ending ≡ NoMemory) × (new ≡ old)
