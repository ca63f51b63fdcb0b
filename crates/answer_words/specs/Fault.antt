-- What a code of a refusal stands for.
use Rattle.std.specs.Prelude.{List, [], ◌∷◌, Option, None, Some, ◌-◌, ◌==◌, slice_get}
use Rattle.std.specs.Prelude.{if◌then◌else◌}
use Rattle.tool_input.specs.declared.rejection.Code.{Code}
use Rattle.tool_input.specs.declared.rejection.Code.TheVariants.{E, F, H, L, P, Q, S, W}
use Rattle.answer_words.specs.declared.fault.Fault.{Fault}
use Rattle.answer_words.specs.declared.fault.Fault.TheVariants as fault

-- the faults of an input, of a protocol text, of a log and of a script, by their codes from 1
abbrev pub input_faults : List Fault
input_faults = fault.NoPart ∷ fault.TooLong ∷ []

abbrev pub text_faults : List Fault
text_faults =
    fault.BadByte ∷ fault.BadToken ∷ fault.NoProtocol ∷ fault.NameTwice ∷ fault.UnknownName ∷
    fault.OtherArity ∷ fault.BadAdornment ∷ fault.Cycle ∷ fault.OverLimit ∷ fault.NoKey ∷
    fault.KeyMissing ∷ fault.KeyElsewhere ∷ fault.ToItself ∷ fault.ParameterTwice ∷
    fault.NoMessage ∷ fault.NoRoleNamed ∷ fault.NoParameter ∷ []

abbrev pub log_faults : List Fault
log_faults = fault.LogForm ∷ fault.LogNumber ∷ []

abbrev pub script_faults : List Fault
script_faults = fault.ScriptForm ∷ fault.ScriptName ∷ []

-- those of a question
abbrev pub question_faults : List Fault
question_faults = fault.QuestionByte ∷ fault.QuestionLong ∷ fault.QuestionToken ∷ []

-- the fault of a code
abbrev pub fault_of : Code → Option Fault
fault_of (P n) = slice_get input_faults (n - 1)
fault_of (E n) = slice_get text_faults (n - 1)
fault_of (L n) = slice_get log_faults (n - 1)
fault_of (W n) = slice_get (fault.RunForm ∷ []) (n - 1)
fault_of (S n) = slice_get script_faults (n - 1)
fault_of (H n) = slice_get (fault.HistoryForm ∷ []) (n - 1)
fault_of (F n) = if n == 5 then Some fault.NoRole else None
fault_of (Q n) = slice_get question_faults (n - 1)
