-- The first part of an input, line by line.
use Rattle.std.proofs.Common.{◌≡◌, ℕ, List, [], ◌∷◌, eqb, Option, Some, None, ◌∙◌, ap}
use Rattle.std.specs.List.{join_with_byte, slice_split}
use Rattle.std.proofs.lemmas.List.Splits.{join_with_byte-slice_split}
use Rattle.list_base.specs.Lines.{parts_in}
use Rattle.tool_input.specs.declared.parts.Part.{Part}
use Rattle.tool_input.specs.Parts.{all_parts, first_part, first_part_in, part_begun}

-- the lines of a text are its first line and those after it
abbrev pub AreSplit : List ℕ → List ℕ → Option (List ℕ) → Type 0
AreSplit text line after = slice_split (λ b. eqb b 10) text ≡ line ∷ parts_in 10 after

-- what the lines give if the first of them begins this part, or none
abbrev begun : Option Part → List (List ℕ) → Option (Part × List ℕ)
begun None more = first_part_in more
begun (Some part) more = Some (part, join_with_byte 10 more)

-- it is settled by what the first line begins
first_line_settles : (line : List ℕ) (more : List (List ℕ)) (found : Option Part) → part_begun line all_parts ≡ found → first_part_in (line ∷ more) ≡ begun found more
first_line_settles line more None is =
    ap (λ (o : Option Part). elim o as (λ p. Option (Part × List ℕ)) [ Some part ↦ Some (part, join_with_byte 10 more) | None ↦ first_part_in more ]) is
first_line_settles line more (Some part) is =
    ap (λ (o : Option Part). elim o as (λ p. Option (Part × List ℕ)) [ Some part ↦ Some (part, join_with_byte 10 more) | None ↦ first_part_in more ]) is

-- a line that begins a part, with lines after it
pub begun_before : (text line after : List ℕ) (part : Part) → AreSplit text line (Some after) → part_begun line all_parts ≡ Some part → first_part text ≡ Some (part, after)
unfolding first_part
begun_before text line after part split is =
    ap first_part_in split ∙ first_line_settles line (slice_split (λ b. eqb b 10) after) (Some part) is ∙ ap (λ bytes. Some (part, bytes)) (join_with_byte-slice_split 10 after)

-- and without any
pub begun_last : (text line : List ℕ) (part : Part) → AreSplit text line None → part_begun line all_parts ≡ Some part → first_part text ≡ Some (part, [])
unfolding first_part
begun_last text line part split is = ap first_part_in split ∙ first_line_settles line [] (Some part) is

-- a line that begins none is passed over
pub passed_over : (text line after : List ℕ) → AreSplit text line (Some after) → part_begun line all_parts ≡ None → first_part text ≡ first_part after
unfolding first_part
passed_over text line after split none = ap first_part_in split ∙ first_line_settles line (slice_split (λ b. eqb b 10) after) None none

-- the last line
pub none_begun : (text line : List ℕ) → AreSplit text line None → part_begun line all_parts ≡ None → first_part text ≡ None
unfolding first_part
none_begun text line split none = ap first_part_in split ∙ first_line_settles line [] None none
