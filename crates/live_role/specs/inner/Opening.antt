-- How an opening takes the pieces of an input.
use Rattle.std.specs.Prelude.{◌≡◌, ◌≢◌, ℕ, ◌≤◌, List, ◌++◌, All, Option, None, Some, drop, length, ⊤}
use Rattle.std.specs.Io.KnownBytes.{Consumes}
use Rattle.bspl_io.specs.declared.source.ReadRefusal.{ReadRefusal}
use Rattle.bspl_io.specs.declared.source.ReadRefusal.TheVariants.{ReadFault, TooLong, NoMemory}
use Rattle.bspl_types.specs.Limits.{input_limit}
use Rattle.live_role.specs.declared.opening.Opening.{Opening}
use Rattle.live_role.specs.Opening.{IsUnopenedTooLong, TakesUnopened}
use Rattle.live_role.specs.Wire.{HasNoWireLine, Opens}

-- these bytes came, and the line not yet
pub record HasTaken (bytes : List ℕ) (o : Opening) : Type 0 where
  pub before : HasNoWireLine o.text
  pub unended : All (λ byte. byte ≢ 10) o.begun
  pub whole : bytes ≡ o.text ++ o.begun

-- after the piece the line has not come, or it comes so far within it
abbrev pub AfterPiece : List ℕ → List ℕ → Opening → Option ℕ → Type 0
AfterPiece bytes piece new None = HasTaken (bytes ++ piece) new
AfterPiece bytes piece new (Some at) =
    (at ≤ length piece) × Opens (bytes ++ piece) new.text (drop at piece)

-- so it is, whatever came before
pub record TakesPiece (old : Opening) (piece : List ℕ) (new : Opening) (found : Option ℕ)
    : Type 0 where
  pub takes : (bytes : List ℕ) → HasTaken bytes old → AfterPiece bytes piece new found

-- it has taken the piece up to the rest, and the line has not come
pub record TakesUpTo (old : Opening) (piece rest : List ℕ) (new : Opening) : Type 0 where
  pub done : List ℕ
  pub whole : piece ≡ done ++ rest
  pub takes : (bytes : List ℕ) → HasTaken bytes old → HasTaken (bytes ++ done) new

-- so many bytes were read, and the line has not come
pub record HasRead (old new : Option (List ℕ)) (count : ℕ) (o : Opening) : Type 0 where
  pub bytes : List ℕ
  pub taken : Consumes old new bytes
  pub counted : count ≡ length bytes
  pub short : count ≤ input_limit
  pub has : HasTaken bytes o

-- reading stops before the line came
abbrev pub StopsUnopened : Option (List ℕ) → Option (List ℕ) → ReadRefusal → Type 0
StopsUnopened old new ReadFault = TakesUnopened old new
StopsUnopened old new TooLong = IsUnopenedTooLong old new
StopsUnopened old new NoMemory = ⊤
