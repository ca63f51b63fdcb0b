-- What a failure of the journal and one of the sink make of an answer.
use Rattle.bspl_io.specs.declared.sink.Trouble.{Trouble}
use Rattle.bspl_io.specs.declared.sink.Trouble.TheVariants as troubles
use Rattle.bspl_io.specs.declared.sink.WriteRefusal.{WriteRefusal}
use Rattle.bspl_io.specs.declared.sink.WriteRefusal.TheVariants as writes
use Rattle.kept_lines.specs.declared.answer.AnswerRefusal.{AnswerRefusal}
use Rattle.kept_lines.specs.declared.answer.AnswerRefusal.TheVariants.{JournalFault, WriteFault, NoMemory}

-- a failure of the journal is its fault, and out of memory stays out of memory
abbrev pub refusal_of_journal : Trouble → AnswerRefusal
refusal_of_journal troubles.Failed = JournalFault
refusal_of_journal troubles.NoMemory = NoMemory

-- a fault of the sink stays one, and so does out of memory
abbrev pub refusal_of_sink : WriteRefusal → AnswerRefusal
refusal_of_sink writes.WriteFault = WriteFault
refusal_of_sink writes.NoMemory = NoMemory
