-- What may stand at a place of a protocol text.
use Rattle.std.specs.Prelude.{◌≡◌, ℕ, ◌<◌, ◌⊎◌, List, [], ◌∷◌, ◌++◌, length}
use Rattle.bspl_parser.specs.Judgement.{IsBadSyntax}
use Rattle.bspl_parser.specs.Tokens.{IsBadByte}
use Rattle.text_lines.specs.Fields.{fields_of}
use Rattle.answer_words.specs.declared.wording.details.TheConstants as details

-- the words and signs of the language, and a name in place of all names
abbrev pub signs : List (List ℕ)
signs = fields_of details.SIGNS.now

-- a byte or a token before the end of the text is refused
pub record IsRefusedWithin (text : List ℕ) : Type 0 where
  pub offset : ℕ
  pub within : offset < length text
  pub refused : IsBadByte text offset ⊎ IsBadSyntax text offset

-- with the sign after the text, in a line of its own, nothing is refused: some document begins so
abbrev pub MayComeNext : List ℕ → List ℕ → Type 0
MayComeNext before sign = ¬ IsRefusedWithin (before ++ 10 ∷ sign)

-- the text lists those of the signs that may stand there, each after a space
pub data ListsChoices (before : List ℕ) : List (List ℕ) → List ℕ → Type 0 where
  none : ListsChoices before [] []
  may : (sign : List ℕ) (more : List (List ℕ)) (text : List ℕ) → MayComeNext before sign
      → ListsChoices before more text
      → ListsChoices before (sign ∷ more) (32 ∷ (sign ++ text))
  may_not : (sign : List ℕ) (more : List (List ℕ)) (text : List ℕ) → ¬ MayComeNext before sign
      → ListsChoices before more text → ListsChoices before (sign ∷ more) text

-- the line that lists them all
pub record IsChoiceLine (before line : List ℕ) : Type 0 where
  pub listed : List ℕ
  pub choices : ListsChoices before signs listed
  pub is_line : line ≡ details.HERE_MAY_STAND.now ++ listed ++ 10 ∷ []
