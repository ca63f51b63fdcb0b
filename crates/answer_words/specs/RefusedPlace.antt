-- The place of a refusal in the whole input, and the names that it gives.
use Rattle.std.specs.Prelude.{ℕ, List, [], Option, None, Some}
use Rattle.tool_input.specs.declared.rejection.Code.{Code}
use Rattle.tool_input.specs.declared.rejection.Code.TheVariants.{E, F, H, L, P, Q, S, W}
use Rattle.tool_input.specs.declared.rejection.Field.{Field}
use Rattle.tool_input.specs.declared.rejection.Field.TheVariants as field
use Rattle.tool_input.specs.Parts.{first_part, part_name}
use Rattle.answer_words.specs.LimitText.{limit_text}
use Rattle.answer_words.specs.PartLines.{part_place}
use Rattle.answer_words.specs.Place.{Spot, place_of}

-- the place of a number of a refusal: an offset of the protocol text, with which the input begins,
-- or a line of the part
abbrev pub number_place : List ℕ → Code → ℕ → Option Spot
number_place input (P k) n = None
number_place input (F k) n = None
number_place input (Q k) n = None
number_place input (E k) n = Some (place_of input n)
number_place input (L k) n = part_place input n (first_part input)
number_place input (W k) n = part_place input n (first_part input)
number_place input (S k) n = part_place input n (first_part input)
number_place input (H k) n = part_place input n (first_part input)

-- the place of a refusal, if it has one
abbrev pub field_place : List ℕ → Code → Option Field → Option Spot
field_place input code (Some (field.Number n)) = number_place input code n
field_place input code other = None

-- the number of a field, or 0
abbrev pub number_of : Option Field → ℕ
number_of (Some (field.Number n)) = n
number_of other = 0

-- the name of a field, or how many there may be of what it counts
abbrev pub name_of : Option Field → List ℕ
name_of (Some (field.Name name)) = name
name_of (Some (field.Part part)) = part_name part
name_of (Some (field.Counted what)) = limit_text what
name_of other = []

-- the line at the place
abbrev pub shown_line : Option Spot → List ℕ
shown_line None = []
shown_line (Some spot) = spot.shown
