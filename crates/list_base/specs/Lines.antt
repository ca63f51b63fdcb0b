-- The lines of a text, and the parts between separators.
use Rattle.std.specs.Prelude.{◌≢◌, ℕ, ◌==◌, if◌then◌else◌, All, List, [], ◌∷◌, ◌++◌, Option, Some, None, codes}
use Rattle.std.specs.List.{join_with_byte, onto_first, slice_split}

-- a line that is written has one space between its fields, and ends with LF
abbrev pub line_of : List (List ℕ) → List ℕ
line_of fields = join_with_byte 32 fields ++ codes "\n"

-- the last line of a text that says where it ends
abbrev pub end_line : List ℕ
end_line = line_of (codes "end" ∷ [])

-- a line, with its LF
abbrev pub Line : Type 0
Line = List ℕ

-- the lines of a text; only the last one may lack its LF
abbrev pub lines_of : List ℕ → List Line
lines_of [] = []
lines_of (byte ∷ bytes) =
    if byte == 10 then (byte ∷ []) ∷ lines_of bytes else onto_first byte (lines_of bytes)

-- none of the lines is `end`
abbrev pub HasNoEnd : List Line → Type 0
HasNoEnd lines = All (λ line. line ≢ end_line) lines

-- the parts between separators of what follows, if anything does
abbrev pub parts_in : ℕ → Option (List ℕ) → List (List ℕ)
parts_in separator None = []
parts_in separator (Some bytes) = slice_split (λ byte. byte == separator) bytes
