-- What is taken of the input up to the line.
use Rattle.std.specs.Prelude.{ℕ, ◌<◌, ◌≤◌, List, ◌++◌, Option, length}
use Rattle.std.specs.Io.KnownBytes.{Consumes, IsAtEnd}
use Rattle.bspl_types.specs.Limits.{input_limit}
use Rattle.live_role.specs.Wire.{IsUnopened, Opens}

-- the text, the line, and some bytes after it were taken
pub record TakesOpening (text ahead : List ℕ) (old new : Option (List ℕ)) : Type 0 where
  pub bytes : List ℕ
  pub taken : Consumes old new bytes
  pub short : length bytes ≤ input_limit
  pub opens : Opens bytes text ahead

-- some bytes were taken, and the line did not come
pub record TakesUnopened (old new : Option (List ℕ)) : Type 0 where
  pub bytes : List ℕ
  pub taken : Consumes old new bytes
  pub short : length bytes ≤ input_limit
  pub unopened : IsUnopened bytes

-- the input ended before the line came
pub record EndsUnopened (old new : Option (List ℕ)) : Type 0 where
  pub takes : TakesUnopened old new
  pub at_end : IsAtEnd new

-- too many bytes came, and the line not before the last piece of them, which passed the limit; a
-- piece has at most 4096 bytes
pub record IsUnopenedTooLong (old new : Option (List ℕ)) : Type 0 where
  pub bytes : List ℕ
  pub last : List ℕ
  pub taken : Consumes old new (bytes ++ last)
  pub short : length bytes ≤ input_limit
  pub piece : length last ≤ 4096
  pub long : input_limit < length (bytes ++ last)
  pub unopened : IsUnopened bytes
