-- The tokens of a text: at each offset the longest, with blanks and comments skipped.
use Rattle.std.specs.Prelude.{◌≡◌, ◌≢◌, ℕ, ◌+◌, Bool, ◌==◌, ◌||◌, List, [], ◌∷◌, ◌++◌, length}
use Rattle.std.specs.Prelude.{IsTrue, codes, ◌⊎◌}
use Rattle.std.specs.List.{All}
use Rattle.bspl_parser.specs.declared.symbol.Symbol.{Symbol}
use Rattle.bspl_parser.specs.declared.symbol.Symbol.TheVariants.{Arrow}
use Rattle.bspl_parser.specs.declared.token.Token.{Token}
use Rattle.bspl_parser.specs.declared.token.Token.TheVariants.{Name, Fixed}
use Rattle.bspl_parser.specs.Symbol.{spelling}
use Rattle.bspl_parser.specs.Token.{offset_of}

-- space, tab, LF or CR
abbrev pub is_blank_byte : ℕ → Bool
is_blank_byte b = ((b == 32 || b == 9) || b == 10) || b == 13

-- the text has no LF
abbrev pub IsLine : List ℕ → Type 0
IsLine text = All (λ b. b ≢ 10) text

-- blanks, and comments with the LF after each
pub data IsGap : List ℕ → Type 0 where
  nothing : IsGap []
  blank : {b : ℕ} {gap : List ℕ} → IsTrue (is_blank_byte b) → IsGap gap → IsGap (b ∷ gap)
  comment : (text : List ℕ) {gap : List ℕ}
      → IsLine text → IsGap gap → IsGap (47 ∷ 47 ∷ (text ++ 10 ∷ gap))

-- nothing, or a comment without LF
abbrev pub IsEnd : List ℕ → Type 0
IsEnd bytes = (bytes ≡ []) ⊎ ((text : List ℕ) × IsLine text × (bytes ≡ codes "//" ++ text))

-- the other arrow, U+21A6
abbrev pub long_arrow : List ℕ
long_arrow = 226 ∷ 134 ∷ 166 ∷ []

-- the text spells the symbol
abbrev pub SpellsSymbol : List ℕ → Symbol → Type 0
SpellsSymbol text symbol = (text ≡ spelling symbol) ⊎ ((symbol ≡ Arrow) × (text ≡ long_arrow))

-- the text spells the token (a word's text is always a name)
abbrev pub SpellsToken : List ℕ → Token → Type 0
SpellsToken text (Name word) = word.text ≡ text
SpellsToken text (Fixed symbol offset) = SpellsSymbol text symbol

-- no token's text begins with this text and goes on with a part of the rest
abbrev pub IsLongestToken : List ℕ → List ℕ → Type 0
IsLongestToken text rest =
    (more after : List ℕ) (longer : Token)
    → rest ≡ more ++ after → SpellsToken (text ++ more) longer → more ≡ []

-- the bytes, which begin at the offset, are a gap, the token's text and the rest
pub record BeginsWithToken
    (offset : ℕ) (bytes : List ℕ) (token : Token) (gap text rest : List ℕ) : Type 0 where
  pub parts : bytes ≡ gap ++ (text ++ rest)
  pub skipped : IsGap gap
  pub spelled : SpellsToken text token
  pub longest : IsLongestToken text rest
  pub at_offset : offset_of token ≡ offset + length gap

-- the bytes, which begin at the offset, have these tokens and no others before an end of that kind
abbrev pub TokensTo : (ℕ → List ℕ → Type 0) → ℕ → List ℕ → List Token → Type 0
TokensTo End offset bytes [] =
    (gap rest : List ℕ)
    × IsGap gap × (bytes ≡ gap ++ rest) × End (offset + length gap) rest
TokensTo End offset bytes (token ∷ tokens) =
    (gap text rest : List ℕ)
    × BeginsWithToken offset bytes token gap text rest
    × TokensTo End (offset + length gap + length text) rest tokens

-- the tokens of a whole text
abbrev pub Tokens : List ℕ → List Token → Type 0
Tokens text tokens = TokensTo (λ offset rest. IsEnd rest) 0 text tokens

-- some bytes, with which no token, no blank and no comment begins
pub record BeginsNothing (bytes : List ℕ) : Type 0 where
  pub some : bytes ≢ []
  pub no_blank : (b : ℕ) (rest : List ℕ) → bytes ≡ b ∷ rest → IsTrue (is_blank_byte b) → ⊥
  pub no_comment : (rest : List ℕ) → bytes ≢ codes "//" ++ rest
  pub no_token : (text rest : List ℕ) (token : Token)
      → bytes ≡ text ++ rest → SpellsToken text token → ⊥

-- the first byte at which no token begins
abbrev pub IsBadByte : List ℕ → ℕ → Type 0
IsBadByte text bad =
    (tokens : List Token)
    × TokensTo (λ offset rest. (offset ≡ bad) × BeginsNothing rest) 0 text tokens
