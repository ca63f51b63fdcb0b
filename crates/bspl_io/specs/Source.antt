-- What a call takes of a source whose remaining bytes may be known.
use Rattle.std.specs.Prelude.{◌≡◌, ℕ, ◌≤◌, List, Option, length, IfSome}
use Rattle.std.specs.Io.KnownBytes.{Consumes, IsAtEnd}

-- the first remaining bytes were taken, and P holds of these
abbrev pub Takes : Option (List ℕ) → Option (List ℕ) → (List ℕ → Type 0) → Type 0
Takes old new P = (bytes : List ℕ) × Consumes old new bytes × P bytes

-- these are all the bytes that were remaining, and no more than the limit
pub record ReadsAll (old new : Option (List ℕ)) (limit : ℕ) (bytes : List ℕ) : Type 0 where
  pub whole : IfSome old (λ known. bytes ≡ known)
  pub at_end : IsAtEnd new
  pub within : length bytes ≤ limit
