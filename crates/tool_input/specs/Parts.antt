-- The parts of an input: the protocol text, and the part that the first part line begins.
use Rattle.std.specs.Prelude.{ℕ, Bool, not, ◌||◌, List, [], ◌∷◌, ◌++◌, cond, codes, Option, None, Some}
use Rattle.std.specs.List.{flat_map, join_with_byte, list_any, take_while}
use Rattle.std.specs.Str.{bytes_eq}
use Rattle.tool_input.specs.declared.parts.Part.{Part}
use Rattle.tool_input.specs.declared.parts.Part.TheVariants.{Agents, Log, Run, Histories, Wire}
use Rattle.tool_input.specs.Lines.{line, lines}

-- the name of a part
abbrev pub part_name : Part → List ℕ
part_name Agents = codes "agents"
part_name Log = codes "log"
part_name Run = codes "run"
part_name Histories = codes "histories"
part_name Wire = codes "wire"

-- all parts
abbrev pub all_parts : List Part
all_parts = Agents ∷ Log ∷ Run ∷ Histories ∷ Wire ∷ []

-- the line that begins a part
abbrev pub part_line : Part → List ℕ
part_line part = codes "%% " ++ part_name part

-- the line begins the part; it may have one CR at its end
abbrev pub begins_part : List ℕ → Part → Bool
begins_part text part =
    bytes_eq text (part_line part) || bytes_eq text (part_line part ++ codes "\r")

-- the line begins some part
abbrev pub is_part_line : List ℕ → Bool
is_part_line text = list_any (begins_part text) all_parts

-- some line of the input begins a part
unfoldable pub has_part_line : List ℕ → Bool
has_part_line input = list_any is_part_line (lines input)

-- the protocol text: the lines before the first part line, or the whole input if there is none
unfoldable pub protocol_text : List ℕ → List ℕ
protocol_text input =
    cond (has_part_line input)
    (flat_map line (take_while (λ l. not (is_part_line l)) (lines input))) input

-- the part that the line begins, if it begins one
abbrev pub part_begun : List ℕ → List Part → Option Part
part_begun text [] = None
part_begun text (part ∷ parts) = cond (begins_part text part) (Some part) (part_begun text parts)

-- the part that the first part line begins, and all bytes after the LF of that line
abbrev pub first_part_in : List (List ℕ) → Option (Part × List ℕ)
first_part_in [] = None
first_part_in (text ∷ more) =
    elim (part_begun text all_parts) as (λ o. Option (Part × List ℕ)) [
      | Some part ↦ Some (part, join_with_byte 10 more)
      | None ↦ first_part_in more
    ]

unfoldable pub first_part : List ℕ → Option (Part × List ℕ)
first_part input = first_part_in (lines input)
