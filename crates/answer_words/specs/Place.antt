-- Places in a text: a line and a column, both counted from 1.
use Rattle.std.specs.Prelude.{ℕ, ◌+◌, ◌-◌, ◌==◌, nat_lt, min, if◌then◌else◌, List, [], ◌∷◌, ◌++◌}
use Rattle.std.specs.Prelude.{length, map, take}
use Rattle.list_base.specs.Numeral.{numeral}
use Rattle.tool_input.specs.Lines.{lines}
use Rattle.answer_words.specs.declared.place.Place.{Place}
use Rattle.answer_words.specs.declared.wording.TheConstants as wording

-- a line and a column, and the bytes of the line
pub record Spot : Type 0 where
  pub line : ℕ
  pub column : ℕ
  pub shown : List ℕ

-- the place that the code gives
abbrev pub spot_of : Place → Spot
spot_of p = record { line = p.line; column = p.column; shown = p.shown.now }

-- the place of an offset, counted from 0, in lines of which the first has that number: it is in the
-- first line that reaches so far, with its LF
abbrev pub spot_in : ℕ → List (List ℕ) → ℕ → Spot
spot_in number [] offset = record { line = number; column = offset + 1; shown = [] }
spot_in number (text ∷ more) offset =
    if nat_lt (length text) offset then spot_in (number + 1) more (offset - (length text + 1))
    else record { line = number; column = offset + 1; shown = text }

-- the place of an offset in a text; one past the end is taken as the end
abbrev pub place_of : List ℕ → ℕ → Spot
place_of text offset = spot_in 1 (lines text) (min offset (length text))

-- the beginning of the n-th of these lines, of which the first has that number
abbrev pub line_in : ℕ → List (List ℕ) → ℕ → Spot
line_in number [] n = record { line = number; column = 1; shown = [] }
line_in number (text ∷ more) n =
    if nat_lt 1 n then line_in (number + 1) more (n - 1)
    else record { line = number; column = 1; shown = text }

-- what stands left of a mark under the line: tabs stay, so that the mark is where it should be
abbrev pub indent : List ℕ → List ℕ
indent bytes = map (λ b. if b == 9 then 9 else 32) bytes

-- the place in words, the line, and a mark under the place
abbrev pub spot_text : Spot → List ℕ
spot_text spot =
    wording.LINE.now ++ numeral spot.line ++ wording.COLUMN.now ++ numeral spot.column ++
    wording.NEXT_SHOWN.now ++ spot.shown ++
    wording.NEXT_SHOWN.now ++ indent (take (spot.column - 1) spot.shown) ++ wording.MARK.now
