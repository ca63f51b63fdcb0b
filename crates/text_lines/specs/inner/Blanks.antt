-- What begins with no blank.
use Rattle.std.specs.Prelude.{◌≡◌, ℕ, false, List, [], ◌∷◌}
use Rattle.text_lines.specs.Fields.{is_blank}

-- empty, or its first byte is no blank
abbrev pub BeginsField : List ℕ → Type 0
BeginsField [] = Unit {0}
BeginsField (b ∷ _) = is_blank b ≡ false
