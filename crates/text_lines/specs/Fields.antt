-- The fields of a line that a person writes.
use Rattle.std.specs.Prelude.{ℕ, Bool, not, ◌==◌, ◌||◌, List, length}
use Rattle.std.specs.List.{slice_split, filter}

-- the bytes of a field
abbrev pub Field : Type 0
Field = List ℕ

-- a space or a tab
abbrev pub is_blank : ℕ → Bool
is_blank b = b == 32 || b == 9

-- the fields of a line: what stands between spaces and tabs
abbrev pub fields_of : List ℕ → List Field
fields_of line =
    filter (λ field. not (length field == 0)) (slice_split (λ b. b == 32 || b == 9) line)
