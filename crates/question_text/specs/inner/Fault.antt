-- Why tokens are no question.
use Rattle.std.specs.Prelude.{◌≡◌, ℕ, List, [], ◌∷◌, ◌++◌}
use Rattle.bspl_parser.specs.declared.token.Token.{Token}
use Rattle.bspl_parser.specs.declared.tokens.TokensError.{TokensError}
use Rattle.bspl_parser.specs.declared.tokens.TokensError.TheVariants as error
use Rattle.bspl_parser.specs.Token.{offset_of}
use Rattle.question_text.specs.declared.fault.QuestionFault.{QuestionFault}
use Rattle.question_text.specs.declared.fault.QuestionFault.TheVariants.{Byte, NoMemory}
use Rattle.question_text.specs.declared.reader.TokenFault.{TokenFault}
use Rattle.question_text.specs.declared.reader.TokenFault.TheVariants as fault
use Rattle.question_text.specs.QuestionText.{BeginsQuestion, SpellsQuestion}
use Rattle.question_text.specs.Tree.{Phrase}

-- the fault of a text that has no tokens
abbrev pub fault_of : TokensError → QuestionFault
fault_of (error.Byte offset) = Byte offset
fault_of error.NoMemory = NoMemory

-- some question begins with the tokens before the one at the offset, and none with it too
pub record HasMisplaced (tokens : List Token) (offset : ℕ) : Type 0 where
  pub prefix : List Token
  pub token : Token
  pub rest : List Token
  pub parts : tokens ≡ prefix ++ token ∷ rest
  pub at_offset : offset_of token ≡ offset
  pub begins : BeginsQuestion prefix
  pub none : ¬ BeginsQuestion (prefix ++ token ∷ [])

-- the tokens are no question, but some question begins with them
pub record AreUnfinished (tokens : List Token) : Type 0 where
  pub begins : BeginsQuestion tokens
  pub none : (q : Phrase) → ¬ SpellsQuestion tokens q

-- why the tokens are no question, unless memory ran out
abbrev pub IsTokenFault : List Token → TokenFault → Type 0
IsTokenFault tokens (fault.At offset) = HasMisplaced tokens offset
IsTokenFault tokens fault.End = AreUnfinished tokens
IsTokenFault tokens fault.NoMemory = Unit {0}
