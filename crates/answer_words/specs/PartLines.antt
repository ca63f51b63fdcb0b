-- Lines of an input that leave no room for the one that is refused.
use Rattle.std.specs.Prelude.{ℕ, ◌-◌, nat_eq, if◌then◌else◌, List, [], ◌++◌, codes, length, take}
use Rattle.std.specs.Prelude.{Option, None, Some}
use Rattle.std.specs.List.{starts_with}
use Rattle.tool_input.specs.declared.parts.Part.{Part}
use Rattle.tool_input.specs.Lines.{lines}
use Rattle.tool_input.specs.Parts.{first_part, protocol_text}
use Rattle.answer_words.specs.Exclusion.{last_excluding}
use Rattle.answer_words.specs.Nearest.{nearest_line}
use Rattle.answer_words.specs.Place.{Spot, line_in, place_of, spot_text}
use Rattle.answer_words.specs.declared.wording.details.TheConstants as details

-- the number in the input of the first line of a part with these bytes
abbrev pub first_number : List ℕ → List ℕ → ℕ
first_number input bytes = (place_of input (length input - length bytes)).line

-- the n-th line of the part, in the whole input
abbrev pub part_place : List ℕ → ℕ → Option (Part × List ℕ) → Option Spot
part_place input n None = None
part_place input n (Some (part, bytes)) =
    Some (line_in (first_number input bytes) (lines bytes) n)

-- the last line of the part before the n-th that excludes it
abbrev pub excluding_place : List ℕ → ℕ → Option (Part × List ℕ) → Option Spot
excluding_place input n None = None
excluding_place input n (Some (part, bytes)) =
    let number = first_number input bytes in
    last_excluding (line_in number (lines bytes) n).shown number (take (n - 1) (lines bytes))

-- the first part line: it begins where the protocol text ends
abbrev pub part_line_place : List ℕ → Option (Part × List ℕ) → Option Spot
part_line_place input None = None
part_line_place input (Some found) = Some (place_of input (length (protocol_text input)))

-- a line with its place after that, if there is one
abbrev pub labelled_spot : List ℕ → Option Spot → List ℕ
labelled_spot label None = []
labelled_spot label (Some spot) = label ++ spot_text spot

-- the line on the first part line
abbrev pub first_part_text : List ℕ → List ℕ
first_part_text input =
    labelled_spot details.FIRST_PART_LINE.now (part_line_place input (first_part input))

-- the line that is nearest to a part line, if one is near
abbrev pub near_line_text : Option Spot → List ℕ
near_line_text None = details.NO_LINE.now
near_line_text (Some spot) = details.NEAREST_LINE.now ++ spot_text spot

-- the lines on a part of that name, which does not come first: what does, and what is nearly its
-- part line
abbrev pub missing_part_text : List ℕ → List ℕ → List ℕ
missing_part_text input name =
    first_part_text input ++
    near_line_text (nearest_line (details.PART_MARK.now ++ name) (lines input))

-- the first part line, if the line begins as one
abbrev pub part_again_text : List ℕ → List ℕ → List ℕ
part_again_text input line =
    if starts_with nat_eq line (codes "%%") then first_part_text input else []

-- the lines on the line of the part that is refused
abbrev pub refused_line_text : List ℕ → ℕ → List ℕ → List ℕ
refused_line_text input n line =
    part_again_text input line ++
    labelled_spot details.EXCLUDED_BY.now (excluding_place input n (first_part input))
