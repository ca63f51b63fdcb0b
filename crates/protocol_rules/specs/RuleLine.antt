-- The lines of a text on which its rules stand.
use Rattle.std.specs.Prelude.{ℕ, ◌+◌, Bool, ◌==◌, if◌then◌else◌, nat_eq}
use Rattle.std.specs.Prelude.{List, [], ◌∷◌, ◌++◌, length, drop, Option, Some, None, codes}
use Rattle.std.specs.List.{prefix_len, slice_split, starts_with}
use Rattle.std.specs.Option.{option_to_list}
use Rattle.bspl_parser.specs.Tokens.{is_blank_byte}
use Rattle.protocol_rules.specs.declared.braces.Braces.{Braces}
use Rattle.protocol_rules.specs.Braces.{is_in_braces}

-- how many blanks the bytes begin with
abbrev pub blanks_len : List ℕ → ℕ
blanks_len bytes = prefix_len is_blank_byte bytes

-- a rule's line begins, after blanks, with `//?`: it is a comment to all others
abbrev pub is_rule_line : List ℕ → Bool
is_rule_line line = starts_with nat_eq (drop (blanks_len line) line) (codes "//?")

-- where in a rule's line what follows the mark begins
abbrev pub body_start : List ℕ → Option ℕ
body_start line = if is_rule_line line then Some (blanks_len line + 3) else None

-- what follows the mark on its line, and the offset in the text at which it begins
pub record RuleBody : Type 0 where
  pub offset : ℕ
  pub text : List ℕ

-- the same of a line that begins at the offset
abbrev pub body_at : ℕ → List ℕ → Option ℕ → Option RuleBody
body_at offset line None = None
body_at offset line (Some start) =
    Some (record { offset = offset + start; text = drop start line })

-- the rule of a line, if it is a rule's and begins between the braces
abbrev pub body_in : List Braces → ℕ → List ℕ → Option RuleBody
body_in braces offset line =
    if is_in_braces braces offset then body_at offset line (body_start line) else None

-- the rules of lines, of which the first begins at the offset, in order
abbrev pub bodies_in : List Braces → ℕ → List (List ℕ) → List RuleBody
bodies_in braces offset [] = []
bodies_in braces offset (line ∷ lines) =
    option_to_list (body_in braces offset line) ++
    bodies_in braces (offset + (length line + 1)) lines

-- the rules of a whole text
abbrev pub rule_bodies : List Braces → List ℕ → List RuleBody
rule_bodies braces text = bodies_in braces 0 (slice_split (λ b. b == 10) text)
