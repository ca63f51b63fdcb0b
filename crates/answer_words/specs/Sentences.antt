-- The sentences: for each fault what is wrong, and what to do.
use Rattle.std.specs.Prelude.{ℕ, ◌==◌, if◌then◌else◌, List, [], ◌++◌}
use Rattle.answer_words.specs.declared.fault.Fault.{Fault}
use Rattle.answer_words.specs.declared.fault.Fault.TheVariants as fault
use Rattle.answer_words.specs.declared.wording.refusals.TheConstants as refusals

-- what is wrong, all of it or up to the first name of the refusal; and what to do, unless the place
-- says it
abbrev pub sentences : Fault → List ℕ × List ℕ
sentences fault.NoPart = (refusals.NO_PART.0.now, refusals.NO_PART.1.now)
sentences fault.TooLong = (refusals.TOO_LONG.0.now, refusals.TOO_LONG.1.now)
sentences fault.BadByte = (refusals.BAD_BYTE.0.now, refusals.BAD_BYTE.1.now)
sentences fault.BadToken = (refusals.BAD_TOKEN.0.now, refusals.BAD_TOKEN.1.now)
sentences fault.NoProtocol = (refusals.NO_PROTOCOL.0.now, refusals.NO_PROTOCOL.1.now)
sentences fault.NameTwice = (refusals.NAME_TWICE.0.now, refusals.NAME_TWICE.1.now)
sentences fault.UnknownName = (refusals.UNKNOWN_NAME.0.now, refusals.UNKNOWN_NAME.1.now)
sentences fault.OtherArity = (refusals.OTHER_ARITY.0.now, refusals.OTHER_ARITY.1.now)
sentences fault.BadAdornment = (refusals.BAD_ADORNMENT.0.now, refusals.BAD_ADORNMENT.1.now)
sentences fault.Cycle = (refusals.CYCLE.0.now, refusals.CYCLE.1.now)
sentences fault.OverLimit = (refusals.OVER_LIMIT.0.now, refusals.OVER_LIMIT.1.now)
sentences fault.NoKey = (refusals.NO_KEY.0.now, refusals.NO_KEY.1.now)
sentences fault.KeyMissing = (refusals.KEY_MISSING.0.now, refusals.KEY_MISSING.1.now)
sentences fault.KeyElsewhere = (refusals.KEY_ELSEWHERE.0.now, refusals.KEY_ELSEWHERE.1.now)
sentences fault.ToItself = (refusals.TO_ITSELF.0.now, refusals.TO_ITSELF.1.now)
sentences fault.ParameterTwice = (refusals.PARAMETER_TWICE.0.now, refusals.PARAMETER_TWICE.1.now)
sentences fault.NoMessage = (refusals.NO_MESSAGE.0.now, refusals.NO_MESSAGE.1.now)
sentences fault.LogForm = (refusals.LOG_FORM.0.now, refusals.LOG_FORM.1.now)
sentences fault.LogNumber = (refusals.LOG_NUMBER.0.now, refusals.LOG_NUMBER.1.now)
sentences fault.RunForm = (refusals.RUN_FORM.0.now, refusals.RUN_FORM.1.now)
sentences fault.ScriptForm = (refusals.SCRIPT_FORM.0.now, refusals.SCRIPT_FORM.1.now)
sentences fault.ScriptName = (refusals.SCRIPT_NAME.0.now, refusals.SCRIPT_NAME.1.now)
sentences fault.HistoryForm = (refusals.HISTORY_FORM.0.now, refusals.HISTORY_FORM.1.now)
sentences fault.NoRole = (refusals.NO_ROLE.0.now, refusals.NO_ROLE.1.now)
sentences fault.NoRoleNamed = (refusals.NO_ROLE_NAMED.0.now, refusals.NO_ROLE_NAMED.1.now)
sentences fault.NoParameter = (refusals.NO_PARAMETER.0.now, refusals.NO_PARAMETER.1.now)
sentences fault.QuestionByte = (refusals.QUESTION_BYTE.0.now, refusals.QUESTION_BYTE.1.now)
sentences fault.QuestionLong = (refusals.QUESTION_LONG.0.now, refusals.QUESTION_LONG.1.now)
sentences fault.QuestionToken = (refusals.QUESTION_TOKEN.0.now, refusals.QUESTION_TOKEN.1.now)

-- after the first name
abbrev pub middle : Fault → List ℕ
middle fault.NoPart = refusals.NO_PART_THERE.now
middle fault.Cycle = refusals.BACK_TO_IT.now
middle fault.KeyMissing = refusals.LACKS_KEY.now
middle fault.ToItself = refusals.GOES_TO_ITSELF.now
middle fault.ParameterTwice = refusals.HAS_PARAMETER.now
middle fault = []

-- after the second
abbrev pub ending : Fault → List ℕ
ending fault.KeyMissing = refusals.AS_IN_OR_OUT.now
ending fault.ParameterTwice = refusals.TWICE.now
ending fault = []

-- what is wrong, with the names of the refusal
abbrev pub wrong : Fault → List ℕ → List ℕ → List ℕ
wrong fault one other = (sentences fault).0 ++ one ++ middle fault ++ other ++ ending fault

-- how a part begins
abbrev pub heading : Fault → List ℕ
heading fault.LogForm = refusals.LOG_HEADING.now
heading fault.RunForm = refusals.RUN_HEADING.now
heading fault.HistoryForm = refusals.HISTORY_HEADING.now
heading fault = (sentences fault).1

-- what to do about a line of that number, from 1
abbrev pub line_advice : Fault → ℕ → List ℕ
line_advice fault n = if n == 1 then heading fault else (sentences fault).1
