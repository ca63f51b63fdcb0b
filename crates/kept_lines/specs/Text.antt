-- The text of a file in which lines are written over zeros.
use Rattle.std.specs.Prelude.{◌≡◌, ℕ, ◌==◌, Bool, not, if◌then◌else◌, List, [], ◌∷◌, ◌++◌}
use Rattle.std.specs.List.{list_any, take_while}

-- the bytes before the first 0
abbrev pub before_zero : List ℕ → List ℕ
before_zero image = take_while (λ byte. not (byte == 0)) image

-- whether an LF is among the bytes
abbrev pub has_lf : List ℕ → Bool
has_lf bytes = list_any (λ byte. byte == 10) bytes

-- the bytes up to the last LF, if there is one
abbrev pub whole_lines : List ℕ → List ℕ
whole_lines [] = []
whole_lines (byte ∷ bytes) = if has_lf (byte ∷ bytes) then byte ∷ whole_lines bytes else []

-- the text of a file: the whole lines before the first 0
abbrev pub image_text : List ℕ → List ℕ
image_text image = whole_lines (before_zero image)

-- all of the bytes are text: each line has its LF, and none has a 0
abbrev pub AreTextLines : List ℕ → Type 0
AreTextLines bytes = image_text bytes ≡ bytes

-- lines behind lines are lines
abbrev pub LinesJoin : Type 0
LinesJoin = (kept more : List ℕ) → AreTextLines kept → AreTextLines more →
    AreTextLines (kept ++ more)
