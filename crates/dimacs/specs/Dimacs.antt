-- The DIMACS form of a formula: the lines of a text, their words, and the clauses that they are.
use Rattle.std.specs.Prelude.{◌≡◌, ℕ, ◌≤◌, Bool, true, false, List, [], ◌∷◌, ◌++◌, map, filter, length, All, ◌==◌, ◌||◌, if◌then◌else◌, codes}
use Rattle.std.specs.List.{flat_map, slice_split}
use Rattle.clause_core.specs.declared.literal.Lit.{Lit}
use Rattle.clause_core.specs.Clause.{VariablesExist}
use Rattle.list_base.specs.Numeral.{numeral}
use Rattle.refutation_log.specs.LogText.{pivot_text}

-- the most variables that a formula has
abbrev pub variable_limit : ℕ
variable_limit = 16777215

-- the most clauses that a formula has
abbrev pub clause_limit : ℕ
clause_limit = 2147483647

-- the lines of a text, without their ends
abbrev pub text_lines : List ℕ → List (List ℕ)
text_lines text = slice_split (λ byte. byte == 10) text

-- a word is not empty
abbrev pub is_word : List ℕ → Bool
is_word [] = false
is_word (byte ∷ bytes) = true

-- a space, a tab or a carriage return parts two words
abbrev pub parts_words : ℕ → Bool
parts_words byte = byte == 32 || byte == 9 || byte == 13

-- the words of a line
abbrev pub words_of : List ℕ → List (List ℕ)
words_of line = filter is_word (slice_split parts_words line)

-- a comment is a line that begins with `c`
abbrev pub is_comment : List ℕ → Bool
is_comment [] = false
is_comment (byte ∷ bytes) = byte == 99

-- the words of a line that is no comment
abbrev pub line_words : List ℕ → List (List ℕ)
line_words line = if is_comment line then [] else words_of line

-- whether there is a word
abbrev pub has_words : List (List ℕ) → Bool
has_words [] = false
has_words (word ∷ words) = true

-- the lines from the first one that has words
abbrev pub from_first_words : List (List ℕ) → List (List ℕ)
from_first_words [] = []
from_first_words (line ∷ lines) =
    if has_words (line_words line) then line ∷ lines else from_first_words lines

-- a header has the number of variables and that of clauses
abbrev pub header_words : ℕ → ℕ → List (List ℕ)
header_words vars clauses = codes "p" ∷ codes "cnf" ∷ numeral vars ∷ numeral clauses ∷ []

-- the words are a header, and its numbers are within the limits
pub record IsHeader (words : List (List ℕ)) (vars clauses : ℕ) : Type 0 where
  pub words_are : words ≡ header_words vars clauses
  pub few_variables : vars ≤ variable_limit
  pub few_clauses : clauses ≤ clause_limit

-- the first line that has words is a header, and these lines come after it
pub record HasHeader
    (lines : List (List ℕ)) (vars clauses : ℕ) (after : List (List ℕ)) : Type 0 where
  pub line : List ℕ
  pub found : from_first_words lines ≡ line ∷ after
  pub header : IsHeader (line_words line) vars clauses

-- a clause is its literals as signed numbers, and `0` after them
abbrev pub clause_words : List Lit → List (List ℕ)
clause_words clause = map pivot_text clause ++ codes "0" ∷ []

-- the text is a header and these clauses as they are written, whose variables the header allows
pub record IsDimacs (text : List ℕ) (vars : ℕ) (written : List (List Lit)) : Type 0 where
  pub after : List (List ℕ)
  pub header : HasHeader (text_lines text) vars (length written) after
  pub clauses : flat_map line_words after ≡ flat_map clause_words written
  pub variables : All (VariablesExist vars) written

-- the text is no formula in this form
abbrev pub IsNoFormula : List ℕ → Type 0
IsNoFormula text = (vars : ℕ) (written : List (List Lit)) → ¬ IsDimacs text vars written
