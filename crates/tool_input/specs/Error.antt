-- Why there is no answer: the arguments or the input are refused, or memory ran out.
use Rattle.std.specs.Prelude.{Option, None, Some, ⊤}
use Rattle.tool_input.specs.declared.answer_error.AnswerError.{AnswerError}
use Rattle.tool_input.specs.declared.answer_error.AnswerError.TheVariants as error
use Rattle.tool_input.specs.declared.rejection.Rejection.{Rejection}

-- the error for a rejection; without one memory ran out
abbrev pub error_for : Option Rejection → AnswerError
error_for None = error.NoMemory
error_for (Some rejection) = error.Rejected rejection

-- the error is a rejection of which the fact holds, or memory ran out
abbrev pub RejectsFor : (Rejection → Type 0) → AnswerError → Type 0
RejectsFor P (error.Rejected rejection) = P rejection
RejectsFor P error.NoMemory = ⊤
