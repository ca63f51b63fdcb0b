-- What a text spells, and the offset at which it is refused.
use Rattle.std.specs.Prelude.{◌≡◌, ℕ, List, [], ◌∷◌, ◌++◌, length, ◌⊎◌}
use Rattle.bspl_types.specs.declared.refusals.Refusal.{Refusal}
use Rattle.bspl_types.specs.declared.refusals.Refusal.TheVariants.{Byte, Syntax, NoMemory}
use Rattle.bspl_parser.specs.declared.document.Document.{Document}
use Rattle.bspl_parser.specs.declared.token.Token.{Token}
use Rattle.bspl_parser.specs.Spelling.{Spells}
use Rattle.bspl_parser.specs.Token.{offset_of}
use Rattle.bspl_parser.specs.Tokens.{Tokens, IsBadByte}

-- the text's tokens spell the document
pub record IsText (text : List ℕ) (d : Document) : Type 0 where
  pub tokens : List Token
  pub scanned : Tokens text tokens
  pub spelled : Spells tokens d

-- these tokens begin a document: some tokens after them complete it
abbrev pub IsViable : List Token → Type 0
IsViable tokens = (more : List Token) × (d : Document) × Spells (tokens ++ more) d

-- the first token that no document can have there: some document begins with the tokens before
-- it, and none with it too
pub record IsBadToken (text : List ℕ) (offset : ℕ) : Type 0 where
  pub prefix : List Token
  pub token : Token
  pub rest : List Token
  pub scanned : Tokens text (prefix ++ token ∷ rest)
  pub at_offset : offset_of token ≡ offset
  pub viable : IsViable prefix
  pub not_viable : ¬ IsViable (prefix ++ token ∷ [])

-- the text's tokens spell no document, but some document begins with them; the offset is the end
pub record IsUnfinished (text : List ℕ) (offset : ℕ) : Type 0 where
  pub tokens : List Token
  pub scanned : Tokens text tokens
  pub viable : IsViable tokens
  pub none : (d : Document) → ¬ Spells tokens d
  pub at_offset : offset ≡ length text

-- the bytes are tokens, which are invalid from that offset on
abbrev pub IsBadSyntax : List ℕ → ℕ → Type 0
IsBadSyntax text offset = IsBadToken text offset ⊎ IsUnfinished text offset

-- why a text is refused, unless memory ran out
abbrev pub IsRefusedFor : List ℕ → Refusal → Type 0
IsRefusedFor text (Byte offset) = IsBadByte text offset
IsRefusedFor text (Syntax offset) = IsBadSyntax text offset
IsRefusedFor text NoMemory = Unit {0}
IsRefusedFor text other = ⊥

-- no two hold together
pub record AreExclusive (P Q R : Type 0) : Type 0 where
  pub first : P → ¬ Q
  pub second : P → ¬ R
  pub third : Q → ¬ R
