-- What a text is that is a value.
use Rattle.std.specs.Prelude.{ℕ, ◌<◌, ◌≤◌, List, length}
use Rattle.std.specs.List.{All}
use Rattle.bspl_types.specs.Limits.{value_text_limit}

-- at most 32 bytes, each below 256
pub record IsTextValue (text : List ℕ) : Type 0 where
  pub few : length text ≤ value_text_limit
  pub bytes : All (λ b. b < 256) text
