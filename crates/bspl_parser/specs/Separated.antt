-- Words with one space between each two, and the tokens of such a text.
use Rattle.std.specs.Prelude.{◌≡◌, ℕ, List, map, IsTrue, codes, ◌⊎◌}
use Rattle.std.specs.List.{join_by}
use Rattle.bspl_types.specs.Name.{is_name}
use Rattle.bspl_parser.specs.declared.token.Token.{Token}
use Rattle.bspl_parser.specs.Token.{token_text}
use Rattle.bspl_parser.specs.Tokens.{Tokens}

-- the words, with one space between each two
abbrev pub space_separated : List (List ℕ) → List ℕ
space_separated words = join_by (λ word. word) (codes " ") words

-- a name or a parenthesis
abbrev pub IsNameOrParen : List ℕ → Type 0
IsNameOrParen word = IsTrue (is_name word) ⊎ ((word ≡ codes "(") ⊎ (word ≡ codes ")"))

-- the text's tokens have these words
pub record HasWords (text : List ℕ) (words : List (List ℕ)) : Type 0 where
  pub tokens : List Token
  pub scanned : Tokens text tokens
  pub worded : map token_text tokens ≡ words
