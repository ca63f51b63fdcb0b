-- The lines of a text, and the fields of a line.
use Rattle.std.specs.Prelude.{ℕ, ◌-◌, ◌==◌, if◌then◌else◌, List, [], ◌∷◌, length, take}
use Rattle.std.specs.Prelude.{slice_index_or}
use Rattle.std.specs.List.{slice_split}

-- a line that LF ends, without a CR at its end
abbrev pub without_return : List ℕ → List ℕ
without_return line =
    if slice_index_or line (length line - 1) 0 == 13 then take (length line - 1) line else line

-- each line but the last is ended by LF
abbrev pub ended_lines : List (List ℕ) → List (List ℕ)
ended_lines [] = []
ended_lines (last ∷ []) = last ∷ []
ended_lines (line ∷ next ∷ lines) = without_return line ∷ ended_lines (next ∷ lines)

-- the lines of a text, each without its end: LF, or CR and LF
abbrev pub script_lines : List ℕ → List (List ℕ)
script_lines text = ended_lines (slice_split (λ b. b == 10) text)
