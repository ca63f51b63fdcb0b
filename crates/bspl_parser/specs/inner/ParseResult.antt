-- What reading tokens from left to right gives: a value and the tokens after it, or where it fails.
use Rattle.std.specs.Prelude.{◌≡◌, ℕ, ◌<◌, ◌≤◌, List, length, Result, Ok, Err, OnOk}
use Rattle.bspl_parser.specs.declared.parse_error.ErrorPosition.{ErrorPosition}
use Rattle.bspl_parser.specs.declared.parse_error.ErrorPosition.TheVariants.{At, End}
use Rattle.bspl_parser.specs.declared.parse_error.ParseError.{ParseError}
use Rattle.bspl_parser.specs.declared.parse_error.ParseError.TheVariants as error
use Rattle.bspl_parser.specs.declared.token.Token.{Token}
use Rattle.bspl_parser.specs.inner.Scan.{Scan}

-- the offset of an error in a text of that length
abbrev pub error_offset : ErrorPosition → ℕ → ℕ
error_offset (At offset) len = offset
error_offset End len = len

-- a value and the tokens after it, or where the tokens are invalid
abbrev pub ParseResult : Type 0 → Type 0
ParseResult X = Result (X × List Token) ErrorPosition

-- the first reading, and the next one with its value
infixl 10 ◌>>=◌
abbrev pub ◌>>=◌ : {A B : Type 0}
    → Result A ErrorPosition → (A → Result B ErrorPosition) → Result B ErrorPosition
(Ok x) >>= next = next x
(Err position) >>= next = Err position

-- the reading fails with that error, unless memory ran out
abbrev pub Fails : {X : Type 0} → ParseError → Result X ErrorPosition → Type 0
Fails error.NoMemory reading = Unit {0}
Fails (error.Invalid position) reading = reading ≡ Err position

-- what was returned, with the tokens after it, is what the reading gives, unless memory ran out
abbrev pub Gives : {X : Type 0} → Result X ParseError → List Token → ParseResult X → Type 0
Gives (Ok x) after reading = reading ≡ Ok (x, after)
Gives (Err failed) after reading = Fails failed reading

-- what was returned, with the tokens after it, is what the reading gives
abbrev pub Returns : {X : Type 0} → Result X ErrorPosition → List Token → ParseResult X → Type 0
Returns (Ok x) after reading = reading ≡ Ok (x, after)
Returns (Err position) after reading = reading ≡ Err position

-- the tokens after it are those of the reading
abbrev pub ReturnsRest : Result (Unit {0}) ErrorPosition
    → List Token → Result (List Token) ErrorPosition → Type 0
ReturnsRest (Ok done) after reading = reading ≡ Ok after
ReturnsRest (Err position) after reading = reading ≡ Err position

-- what is returned is what the reading gives; the bad byte stays, and no token is added
pub record Reads {X : Type 0} (result : Result X ParseError) (old new : Scan)
    (reading : ParseResult X) : Type 0 where
  pub gives : Gives result new.tokens reading
  pub same : new.bad_byte ≡ old.bad_byte
  pub no_longer : OnOk result (length new.tokens ≤ length old.tokens)

-- the same, and at least one token is taken
pub record ReadsSome {X : Type 0} (result : Result X ParseError) (old new : Scan)
    (reading : ParseResult X) : Type 0 where
  pub gives : Gives result new.tokens reading
  pub same : new.bad_byte ≡ old.bad_byte
  pub shorter : OnOk result (length new.tokens < length old.tokens)

-- the same of what needs no memory
pub record Takes {X : Type 0} (result : Result X ErrorPosition) (old new : Scan)
    (reading : ParseResult X) : Type 0 where
  pub gives : Returns result new.tokens reading
  pub same : new.bad_byte ≡ old.bad_byte
  pub shorter : OnOk result (length new.tokens < length old.tokens)
