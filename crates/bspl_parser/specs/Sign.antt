-- A sign says which tokens may come at one point of a text; lists of signs.
use Rattle.std.specs.Prelude.{◌≡◌, ℕ, List, [], ◌∷◌, ◌++◌, ◌⊎◌}
use Rattle.std.specs.List.{flat_map}
use Rattle.bspl_parser.specs.declared.symbol.Symbol.{Symbol}
use Rattle.bspl_parser.specs.declared.symbol.Symbol.TheVariants.{Comma}
use Rattle.bspl_parser.specs.declared.token.Token.{Token}
use Rattle.bspl_parser.specs.declared.token.Token.TheVariants.{Name, Fixed}
use Rattle.bspl_parser.specs.declared.word.Word.{Word}

-- a name; a symbol at an offset that the document has; a symbol; one of two symbols
pub data Sign : Type 0 where
  Named : (word : Word) → Sign
  Located : (symbol : Symbol) (offset : ℕ) → Sign
  Plain : (symbol : Symbol) → Sign
  OneOf : (one other : Symbol) → Sign

-- the token is one that the sign allows
abbrev pub Matches : Sign → Token → Type 0
Matches (Named word) token = token ≡ Name word
Matches (Located symbol offset) token = token ≡ Fixed symbol offset
Matches (Plain symbol) token = (offset : ℕ) × (token ≡ Fixed symbol offset)
Matches (OneOf one other) token =
    (offset : ℕ) × ((token ≡ Fixed one offset) ⊎ (token ≡ Fixed other offset))

-- { "," x }
abbrev pub after_commas : {X : Type 0} → (X → List Sign) → List X → List Sign
after_commas signs xs = flat_map (λ x. Plain Comma ∷ signs x) xs

-- x { "," x }
abbrev pub listed : {X : Type 0} → (X → List Sign) → List X → List Sign
listed signs [] = []
listed signs (x ∷ xs) = signs x ++ after_commas signs xs
