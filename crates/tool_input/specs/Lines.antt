-- The lines of a text.
use Rattle.std.specs.Prelude.{ℕ, ◌==◌, List, [], ◌∷◌, ◌++◌}
use Rattle.std.specs.List.{slice_split}

-- a line with its LF
abbrev pub line : List ℕ → List ℕ
line text = text ++ 10 ∷ []

-- the texts between the LFs of a text
abbrev pub lines : List ℕ → List (List ℕ)
lines text = slice_split (λ b. b == 10) text
