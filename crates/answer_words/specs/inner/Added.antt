-- What a function appends to a text.
use Rattle.std.specs.Prelude.{◌≡◌, ℕ, List, ◌++◌}

-- a text with the fact was appended
pub record Adds (P : List ℕ → Type 0) (old new : List ℕ) : Type 0 where
  pub added : List ℕ
  pub grown : new ≡ old ++ added
  pub holds : P added
