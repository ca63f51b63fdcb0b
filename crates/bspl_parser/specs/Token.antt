-- The offset of a token, and its text.
use Rattle.std.specs.Prelude.{ℕ, List}
use Rattle.bspl_parser.specs.declared.token.Token.{Token}
use Rattle.bspl_parser.specs.declared.token.Token.TheVariants.{Name, Fixed}
use Rattle.bspl_parser.specs.Symbol.{spelling}

-- the offset of its first byte
abbrev pub offset_of : Token → ℕ
offset_of (Name word) = word.offset
offset_of (Fixed symbol offset) = offset

-- its name, or the spelling of its symbol
abbrev pub token_text : Token → List ℕ
token_text (Name word) = word.text
token_text (Fixed symbol offset) = spelling symbol
