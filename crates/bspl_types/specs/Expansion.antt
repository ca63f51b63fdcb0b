-- The messages and parameters of an expansion, by number, and how messages adorn parameters.
use Rattle.std.specs.Prelude.{ℕ, List, [], None, false, slice_index_or}
use Rattle.std.specs.List.{Contains}
use Rattle.bspl_types.specs.declared.expanded.Expanded.{Expanded}
use Rattle.bspl_types.specs.declared.protocol.Adornment.{Adornment}
use Rattle.bspl_types.specs.declared.protocol.Message.{Message}
use Rattle.bspl_types.specs.declared.protocol.ParamInfo.{ParamInfo}

-- the message of a number past the last one: it carries nothing
abbrev pub no_message : Message
no_message = record { name = []; sender = 0; receiver = 0; carried = [] }

-- the message of that number
abbrev pub message_of : Expanded → ℕ → Message
message_of x m = slice_index_or x.messages m no_message

-- the name of the message of that number
abbrev pub message_name : Expanded → ℕ → List ℕ
message_name x m = (message_of x m).name

-- the name of the role of that number; past the last one it is empty
abbrev pub role_name : Expanded → ℕ → List ℕ
role_name x role = slice_index_or x.roles role []

-- the parameter of a number past the last one: it has no name
abbrev pub no_param : ParamInfo
no_param = record { name = []; adornment = None; key = false }

-- the name of the parameter of that number
abbrev pub param_name : Expanded → ℕ → List ℕ
param_name x p = (slice_index_or x.params p no_param).name

-- the message has parameter `p` with that adornment
abbrev pub IsAdorned : Message → Adornment → ℕ → Type 0
IsAdorned m adornment p = Contains m.carried (record { param = p; adornment = adornment })

-- the message of that number has parameter `p` with that adornment
abbrev pub Adorns : Expanded → ℕ → Adornment → ℕ → Type 0
Adorns x m adornment p = IsAdorned (message_of x m) adornment p
