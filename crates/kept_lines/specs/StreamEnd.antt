-- What a stream's end is called where an answer could not be kept or written.
use Rattle.kept_lines.specs.declared.answer.AnswerRefusal.{AnswerRefusal}
use Rattle.kept_lines.specs.declared.answer.AnswerRefusal.TheVariants as answer
use Rattle.kept_lines.specs.declared.stream_refusal.StreamRefusal.{StreamRefusal}
use Rattle.kept_lines.specs.declared.stream_refusal.StreamRefusal.TheVariants.{JournalFault, WriteFault, NoMemory}

-- a fault stays that fault, and out of memory stays out of memory
abbrev pub stream_refusal : AnswerRefusal → StreamRefusal
stream_refusal answer.JournalFault = JournalFault
stream_refusal answer.WriteFault = WriteFault
stream_refusal answer.NoMemory = NoMemory
