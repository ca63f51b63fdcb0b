-- Why a text has no tokens.
use Rattle.std.specs.Prelude.{ℕ, List}
use Rattle.bspl_parser.specs.declared.tokens.TokensError.{TokensError}
use Rattle.bspl_parser.specs.declared.tokens.TokensError.TheVariants.{Byte, NoMemory}
use Rattle.bspl_parser.specs.Tokens.{IsBadByte}

-- the first byte at which no token begins, unless memory ran out
abbrev pub HasNoTokens : List ℕ → TokensError → Type 0
HasNoTokens text (Byte offset) = IsBadByte text offset
HasNoTokens text NoMemory = Unit {0}
