-- The first of the pieces into which a text is split.
use Rattle.std.specs.Prelude.{◌≡◌, ℕ, ◌<◌, Bool, List, [], ◌∷◌, length, Option, Some, None}
use Rattle.std.specs.List.{slice_split}

-- the first piece, and the text of the others, if there are any
abbrev pub StartsPieces : (ℕ → Bool) → List ℕ → List ℕ → Option (List ℕ) → Type 0
StartsPieces cuts text piece None = slice_split cuts text ≡ piece ∷ []
StartsPieces cuts text piece (Some rest) =
    (slice_split cuts text ≡ piece ∷ slice_split cuts rest) × (length rest < length text)
