-- Rejections, and the lines in which they are written.
use Rattle.std.specs.Prelude.{ℕ, List, [], ◌∷◌, ◌++◌, codes, Option, None, Some}
use Rattle.std.specs.Fmt.{decimal}
use Rattle.bspl_types.specs.declared.refusals.Refusal.{Refusal}
use Rattle.bspl_types.specs.declared.refusals.Refusal.TheVariants.{Byte, Syntax, NoProtocol, Duplicate, Unknown, Arity, BadAdornment, Recursion, Limit, NoKey, NotWholeKey, ForeignKey, SelfMessage, RepeatedParam, NoMemory}
use Rattle.bspl_types.specs.declared.refusals.What.{What}
use Rattle.bspl_types.specs.declared.refusals.What.TheVariants as what
use Rattle.tool_input.specs.declared.parts.Part.{Part}
use Rattle.tool_input.specs.declared.rejection.Code.{Code}
use Rattle.tool_input.specs.declared.rejection.Code.TheVariants.{E, F, H, L, P, Q, S, W}
use Rattle.tool_input.specs.declared.rejection.Field.{Field}
use Rattle.tool_input.specs.declared.rejection.Field.TheVariants as field
use Rattle.tool_input.specs.declared.rejection.Rejection.{Rejection}
use Rattle.tool_input.specs.declared.refusal.InputRefusal.{InputRefusal}
use Rattle.tool_input.specs.declared.refusal.InputRefusal.TheVariants as input
use Rattle.tool_input.specs.Parts.{part_name}
use Rattle.tool_input.specs.Lines.{line}

-- a letter and a number
abbrev pub code_text : Code → List ℕ
code_text (P n) = codes "P" ++ decimal n
code_text (E n) = codes "E" ++ decimal n
code_text (L n) = codes "L" ++ decimal n
code_text (W n) = codes "W" ++ decimal n
code_text (S n) = codes "S" ++ decimal n
code_text (H n) = codes "H" ++ decimal n
code_text (F n) = codes "F" ++ decimal n
code_text (Q n) = codes "Q" ++ decimal n

-- the word for what is counted against a limit
abbrev pub what_word : What → List ℕ
what_word what.Text = codes "text"
what_word what.Protocols = codes "protocols"
what_word what.Depth = codes "depth"
what_word what.Roles = codes "roles"
what_word what.Parameters = codes "parameters"
what_word what.Keys = codes "keys"
what_word what.Carried = codes "carried"
what_word what.Messages = codes "messages"

-- a number in decimal, a name, or a word
abbrev pub field_text : Field → List ℕ
field_text (field.Number n) = decimal n
field_text (field.Name name) = name
field_text (field.Counted counted) = what_word counted
field_text (field.Part part) = part_name part

-- a space and the field, or nothing
abbrev pub after_space : Option Field → List ℕ
after_space None = []
after_space (Some said) = 32 ∷ field_text said

-- `refused`, the code, and each field after a space
abbrev pub rejection_line : Rejection → List ℕ
rejection_line r =
    line (codes "refused " ++ code_text r.code ++ after_space r.first ++ after_space r.second)

-- a code alone, with one field, or with two
abbrev pub bare : Code → Rejection
bare code = record { code = code; first = None; second = None }

abbrev pub with_one : Code → Field → Rejection
with_one code one = record { code = code; first = Some one; second = None }

abbrev pub with_two : Code → Field → Field → Rejection
with_two code one other = record { code = code; first = Some one; second = Some other }

-- a refusal of the protocol text, by its code; out of memory is no rejection
abbrev pub text_rejection : Refusal → Option Rejection
text_rejection (Byte offset) = Some (with_one (E 1) (field.Number offset))
text_rejection (Syntax offset) = Some (with_one (E 2) (field.Number offset))
text_rejection (NoProtocol name) = Some (with_one (E 3) (field.Name name))
text_rejection (Duplicate offset) = Some (with_one (E 4) (field.Number offset))
text_rejection (Unknown offset) = Some (with_one (E 5) (field.Number offset))
text_rejection (Arity offset) = Some (with_one (E 6) (field.Number offset))
text_rejection (BadAdornment offset) = Some (with_one (E 7) (field.Number offset))
text_rejection (Recursion name) = Some (with_one (E 8) (field.Name name))
text_rejection (Limit counted count) =
    Some (with_two (E 9) (field.Counted counted) (field.Number count))
text_rejection NoKey = Some (bare (E 10))
text_rejection (NotWholeKey message param) =
    Some (with_two (E 11) (field.Name message) (field.Name param))
text_rejection (ForeignKey offset) = Some (with_one (E 12) (field.Number offset))
text_rejection (SelfMessage message) = Some (with_one (E 13) (field.Name message))
text_rejection (RepeatedParam message param) =
    Some (with_two (E 14) (field.Name message) (field.Name param))
text_rejection NoMemory = None

-- the part that an input lacks, and an input over its limit
abbrev pub lacks_part : Part → Rejection
lacks_part part = with_one (P 1) (field.Part part)

abbrev pub over_limit : ℕ → Rejection
over_limit limit = with_one (P 2) (field.Number limit)

-- a refusal of the input, by its code
abbrev pub input_rejection : InputRefusal → Rejection
input_rejection (input.NoPart part) = lacks_part part
input_rejection (input.TooLong limit) = over_limit limit
