-- Which texts are questions, and the offset at which another is refused.
use Rattle.std.specs.Prelude.{◌≡◌, ℕ, ◌<◌, ◌≤◌, List, [], ◌∷◌, ◌++◌, length, map, ◌⊎◌}
use Rattle.bspl_parser.specs.declared.token.Token.{Token}
use Rattle.bspl_parser.specs.Separated.{space_separated}
use Rattle.bspl_parser.specs.Token.{offset_of, token_text}
use Rattle.bspl_parser.specs.Tokens.{Tokens, IsBadByte}
use Rattle.question_text.specs.declared.fault.QuestionFault.{QuestionFault}
use Rattle.question_text.specs.declared.fault.QuestionFault.TheVariants.{Byte, TooLong, Syntax}
use Rattle.question_text.specs.declared.fault.QuestionFault.TheVariants.{NoMemory}
use Rattle.question_text.specs.declared.tree.Tree.{Tree}
use Rattle.question_text.specs.Levels.{HasLevel, QuestionLevel}
use Rattle.question_text.specs.Tree.{Phrase, phrase_of, words_of_phrase, words_of_tree}

-- the most tokens that a question has
abbrev pub question_token_limit : ℕ
question_token_limit = 256

-- the text's tokens, which are within the limit
pub record HasTokens (text : List ℕ) (tokens : List Token) : Type 0 where
  pub scanned : Tokens text tokens
  pub few : length tokens ≤ question_token_limit

-- the tokens are the words of a question
pub record SpellsQuestion (tokens : List Token) (q : Phrase) : Type 0 where
  pub worded : map token_text tokens ≡ words_of_phrase q
  pub formed : HasLevel QuestionLevel q

-- the text is a question with that tree
pub record IsQuestionText (text : List ℕ) (t : Tree) : Type 0 where
  pub tokens : List Token
  pub scanned : HasTokens text tokens
  pub spelled : SpellsQuestion tokens (phrase_of t)

-- the text has that number of tokens, more than a question may have
pub record IsTooLong (text : List ℕ) (count : ℕ) : Type 0 where
  pub tokens : List Token
  pub scanned : Tokens text tokens
  pub counted : length tokens ≡ count
  pub many : question_token_limit < count

-- these tokens begin a question: some tokens after them complete it
abbrev pub BeginsQuestion : List Token → Type 0
BeginsQuestion tokens = (more : List Token) × (q : Phrase) × SpellsQuestion (tokens ++ more) q

-- the first token that no question has there: some question begins with the tokens before it, and
-- none with it too
pub record IsMisplaced (text : List ℕ) (offset : ℕ) : Type 0 where
  pub prefix : List Token
  pub token : Token
  pub rest : List Token
  pub scanned : HasTokens text (prefix ++ token ∷ rest)
  pub at_offset : offset_of token ≡ offset
  pub begins : BeginsQuestion prefix
  pub none : ¬ BeginsQuestion (prefix ++ token ∷ [])

-- the text's tokens are no question, but some question begins with them; the offset is the end
pub record EndsTooEarly (text : List ℕ) (offset : ℕ) : Type 0 where
  pub tokens : List Token
  pub scanned : HasTokens text tokens
  pub begins : BeginsQuestion tokens
  pub none : (q : Phrase) → ¬ SpellsQuestion tokens q
  pub at_offset : offset ≡ length text

-- why a text is no question, unless memory ran out
abbrev pub IsMisread : List ℕ → QuestionFault → Type 0
IsMisread text (Byte offset) = IsBadByte text offset
IsMisread text (TooLong count) = IsTooLong text count
IsMisread text (Syntax offset) = IsMisplaced text offset ⊎ EndsTooEarly text offset
IsMisread text NoMemory = Unit {0}

-- the words of a tree, with one space between each two
abbrev pub tree_spelling : Tree → List ℕ
tree_spelling t = space_separated (words_of_tree t)
