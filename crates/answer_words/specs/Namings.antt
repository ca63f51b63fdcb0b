-- Names that a line of a script or a question gives, and those that an expansion has for them.
use Rattle.std.specs.Prelude.{ℕ, if◌then◌else◌, List, [], ◌∷◌, codes, map, take}
use Rattle.std.specs.Prelude.{Option, None, Some}
use Rattle.std.specs.List.{filter, find}
use Rattle.std.specs.Str.{bytes_eq}
use Rattle.bspl_types.specs.declared.expanded.Expanded.{Expanded}
use Rattle.bspl_types.specs.declared.protocol.Carried.{Carried}
use Rattle.bspl_types.specs.declared.protocol.Message.{Message}
use Rattle.bspl_types.specs.Choice.{is_chosen}
use Rattle.bspl_types.specs.Expansion.{param_name, role_name}
use Rattle.text_lines.specs.Fields.{Field}
use Rattle.answer_words.specs.declared.fault.Fault.{Fault}
use Rattle.answer_words.specs.declared.fault.Fault.TheVariants as fault
use Rattle.answer_words.specs.ScriptRule.{line_fields}
use Rattle.answer_words.specs.declared.wording.details.TheConstants as details

-- a name that is given, the word for what it is to name, and the names that may stand for it
pub record Naming : Type 0 where
  pub kind : List ℕ
  pub given : List ℕ
  pub names : List (List ℕ)

-- any role, any message, or any parameter
abbrev pub role_naming : Expanded → List ℕ → Naming
role_naming x given = record { kind = details.ROLE.now; given = given; names = x.roles }

abbrev pub message_naming : Expanded → List ℕ → Naming
message_naming x given =
    record { kind = details.MESSAGE.now; given = given; names = map (λ m. m.name) x.messages }

abbrev pub param_naming : Expanded → List ℕ → Naming
param_naming x given =
    record { kind = details.PARAMETER.now; given = given; names = map (λ p. p.name) x.params }

-- a message that the role sends
abbrev pub sent_naming : Expanded → List ℕ → List ℕ → Naming
sent_naming x role given = record {
  kind = details.MESSAGE.now;
  given = given;
  names = map (λ m. m.name) (filter (λ m. bytes_eq (role_name x m.sender) role) x.messages);
}

-- what the message carries
abbrev pub carried_by : Option Message → List Carried
carried_by None = []
carried_by (Some m) = m.carried

-- an `out` parameter of the message, and no key
abbrev pub out_naming : Expanded → List ℕ → List ℕ → Naming
out_naming x message given = record {
  kind = details.PARAMETER.now;
  given = given;
  names = map (λ c. param_name x c.param)
      (filter (is_chosen x.keys) (carried_by (find (λ m. bytes_eq m.name message) x.messages)));
}

-- what a line of a script names, by its fields
abbrev pub script_namings : Expanded → List Field → List Naming
script_namings x (word ∷ name ∷ more) =
    if bytes_eq word (codes "order")
    then role_naming x name ∷ map (sent_naming x name) more
    else if bytes_eq word (codes "value")
    then message_naming x name ∷ map (out_naming x name) (take 1 more)
    else message_naming x name ∷ []
script_namings x fields = []

-- what is named where a fault is that a name is none of the expansion: in the line of a script, or
-- by the name of the refusal
abbrev pub namings_of : Fault → List ℕ → List ℕ → Expanded → List Naming
namings_of fault.ScriptName line name x = script_namings x (line_fields line)
namings_of fault.NoRoleNamed line name x = role_naming x name ∷ []
namings_of fault.NoParameter line name x = param_naming x name ∷ []
namings_of fault line name x = message_naming x name ∷ []
