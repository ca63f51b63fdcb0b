-- The tables of a protocol: its messages, and from which of them each role learns a parameter.
use Rattle.std.specs.Prelude.{ℕ, ◌==◌, Bool, false, not, ◌&&◌, ◌||◌, if◌then◌else◌}
use Rattle.std.specs.Prelude.{List, [], ◌∷◌, ◌++◌, slice_index_or}
use Rattle.std.specs.List.{enumerate_from, flat_map, list_any}
use Rattle.bspl_types.specs.declared.expanded.Expanded.{Expanded}
use Rattle.bspl_types.specs.declared.protocol.Adornment.{Adornment}
use Rattle.bspl_types.specs.declared.protocol.Adornment.TheVariants.{In, Out, Nil}
use Rattle.bspl_types.specs.declared.protocol.Carried.{Carried}
use Rattle.bspl_types.specs.declared.protocol.Message.{Message}
use Rattle.bspl_types.specs.declared.protocol.ParamInfo.{ParamInfo}
use Rattle.bspl_types.specs.Adornment.{has_value}
use Rattle.bspl_types.specs.Choice.{is_out}
use Rattle.bspl_types.specs.Expansion.{no_param, param_name}
use Rattle.html.specs.declared.wording.TheConstants as wording
use Rattle.html.specs.Fragment.{Fragment, Words, fitted}

-- the name of the role with this number; past the last one there is none
abbrev pub role_words : Expanded → ℕ → Fragment
role_words x role = Words (slice_index_or x.roles role [])

-- the parameter with this number is a key
abbrev pub is_key : Expanded → ℕ → Bool
is_key x p = (slice_index_or x.params p no_param).key

-- an adornment, as protocols have it
abbrev pub adornment_word : Adornment → List ℕ
adornment_word In = wording.IN.now
adornment_word Out = wording.OUT.now
adornment_word Nil = wording.NIL.now

-- a key is marked
abbrev pub param_template : Bool → List ℕ
param_template key = if key then wording.KEY_PARAMETER.now else wording.PARAMETER.now

-- a parameter of a message: its adornment, its name, and that it is a key
abbrev pub param_item : Expanded → Carried → List Fragment
param_item x c =
    fitted (param_template (is_key x c.param))
    (Words (adornment_word c.adornment) ∷ Words (param_name x c.param) ∷ [])

-- the row of a message: its name, its sender, its receiver, and its parameters
abbrev pub message_row : Expanded → Message → List Fragment
message_row x m =
    fitted wording.MESSAGE.now (Words m.name ∷ role_words x m.sender ∷ role_words x m.receiver ∷ [])
    ++ flat_map (param_item x) m.carried ++ fitted wording.MESSAGE_END.now []

-- the table of messages
abbrev pub message_table : Expanded → List Fragment
message_table x =
    fitted wording.MESSAGES.now [] ++ flat_map (message_row x) x.messages ++
    fitted wording.TABLE_END.now []

-- the message makes the parameter known to the role: to its sender, which produces it, or to its
-- receiver
abbrev pub is_source : ℕ → ℕ → Message → Bool
is_source p role m =
    (m.sender == role && list_any (λ c. c.param == p && is_out c.adornment) m.carried) ||
    (m.receiver == role && list_any (λ c. c.param == p && has_value c.adornment) m.carried)

-- the name of a message, if it is not dead and the role can learn the parameter from it
abbrev pub source_name : Bool → ℕ → ℕ → Message → List Fragment
source_name dead p role m =
    if not dead && is_source p role m then fitted wording.SOURCE.now (Words m.name ∷ []) else []

-- so it is for message m, of which the list says whether it is dead
abbrev pub source_item : List Bool → ℕ → ℕ → ℕ × Message → List Fragment
source_item dead p role (m, message) = source_name (slice_index_or dead m false) p role message

-- the messages from which the role can learn the parameter
abbrev pub source_cell : Expanded → List Bool → ℕ → ℕ → List Fragment
source_cell x dead p role =
    fitted wording.CELL.now [] ++
    flat_map (source_item dead p role) (enumerate_from 0 x.messages) ++
    fitted wording.CELL_END.now []

-- the row of a parameter: its name, and a cell for each role
abbrev pub source_row : Expanded → List Bool → ℕ × ParamInfo → List Fragment
source_row x dead (p, info) =
    fitted wording.SOURCES.now (Words info.name ∷ []) ++
    flat_map (λ (role, _). source_cell x dead p role) (enumerate_from 0 x.roles) ++
    fitted wording.SOURCES_END.now []

-- the head of a role's column
abbrev pub role_head : List ℕ → List Fragment
role_head name = fitted wording.ROLE_HEAD.now (Words name ∷ [])

-- the caption, and the heads of the columns
abbrev pub source_head : Expanded → List Fragment
source_head x =
    fitted wording.KNOWLEDGE.now [] ++ flat_map role_head x.roles ++ fitted wording.HEADS_END.now []

-- the table of what each role can learn, and from which messages that are not dead
abbrev pub source_table : Expanded → List Bool → List Fragment
source_table x dead =
    source_head x ++ flat_map (source_row x dead) (enumerate_from 0 x.params) ++
    fitted wording.TABLE_END.now []
