-- The parts of a spelling, as the functions read and write them.
use Rattle.std.specs.Prelude.{◌≡◌, ◌≢◌, ℕ, ◌<◌, List, [], ◌∷◌, ◌++◌}
use Rattle.std.specs.List.{flat_map}
use Rattle.bspl_types.specs.ValueSpelling.{byte_spelling}
use Rattle.bspl_types.specs.Text.{IsTextValue}

-- the spellings of the bytes, one after another
abbrev pub spelled_bytes : List ℕ → List ℕ
spelled_bytes bytes = flat_map byte_spelling bytes

-- what follows an opening quote spells the text
pub record SpellsText (field : List ℕ) (bytes : List ℕ) : Type 0 where
  pub text : IsTextValue bytes
  pub spelled : field ≡ spelled_bytes bytes ++ 34 ∷ []

-- no byte's spelling begins the field
abbrev pub BeginsWithNone : List ℕ → Type 0
BeginsWithNone field = (b : ℕ) (after : List ℕ) → b < 256 → field ≢ byte_spelling b ++ after
