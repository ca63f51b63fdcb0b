-- How far in a question its fault lies.
use Rattle.std.specs.Prelude.{ℕ}
use Rattle.question_text.specs.declared.fault.QuestionFault.{QuestionFault}
use Rattle.question_text.specs.declared.fault.QuestionFault.TheVariants.{Byte, TooLong, Syntax}
use Rattle.question_text.specs.declared.fault.QuestionFault.TheVariants.{NoMemory}

-- the offset of the fault
abbrev pub fault_offset : QuestionFault → ℕ
fault_offset (Byte offset) = offset
fault_offset (TooLong count) = 0
fault_offset (Syntax offset) = offset
fault_offset NoMemory = 0
