-- What is learnt of a text word by word, and clause by clause.
use Rattle.std.specs.Prelude.{◌≡◌, ℕ, ◌+◌, ◌<◌, ◌≤◌, List, length, [], ◌∷◌, ◌++◌, map, filter, All, Option, Some, None, codes, ⊤}
use Rattle.std.specs.List.{flat_map, slice_split}
use Rattle.clause_core.specs.declared.literal.Lit.{Lit}
use Rattle.refutation_log.specs.LogText.{pivot_text}
use Rattle.list_base.specs.Lines.{parts_in}
use Rattle.dimacs.specs.declared.refusal.Refusal.{Refusal}
use Rattle.dimacs.specs.declared.refusal.Refusal.TheVariants as refusals
use Rattle.dimacs.specs.declared.refusal.Refusal.TheVariants.{Line, TooMany}
use Rattle.dimacs.specs.declared.token.Token.{Token}
use Rattle.dimacs.specs.declared.token.Token.TheVariants.{Literal, End}
use Rattle.dimacs.specs.Dimacs.{HasHeader, parts_words, is_word, line_words}
use Rattle.dimacs.specs.RefusedLine.{StopsAt, IsClauseLine}
use Rattle.dimacs.specs.Verdict.{HaveExactly}

-- the parts between blanks of what is left of a line, if anything is
abbrev pub blank_parts : Option (List ℕ) → List (List ℕ)
blank_parts None = []
blank_parts (Some bytes) = slice_split parts_words bytes

-- the words of what is left of a line
abbrev pub words_left : Option (List ℕ) → List (List ℕ)
words_left left = filter is_word (blank_parts left)

-- the words of a line that has these two after `p cnf`
abbrev pub header_form : List ℕ → List ℕ → List (List ℕ)
header_form vars clauses = codes "p" ∷ codes "cnf" ∷ vars ∷ clauses ∷ []

-- the lines of what is left of a text
abbrev pub lines_in : Option (List ℕ) → List (List ℕ)
lines_in left = parts_in 10 left

-- the word of a token
abbrev pub token_word : Token → List ℕ
token_word (Literal lit) = pivot_text lit
token_word End = codes "0"

-- the variable of the token's literal, if it is one, exists
abbrev pub TokenExists : ℕ → Token → Type 0
TokenExists vars (Literal lit) = (0 < lit.var) × (lit.var ≤ vars)
TokenExists vars End = ⊤

-- the lines have no header
abbrev pub AreHeadless : List (List ℕ) → Type 0
AreHeadless lines =
    (vars clauses : ℕ) (after : List (List ℕ)) → ¬ HasHeader lines vars clauses after

-- the refusal of lines that have no header
abbrev pub HasNoHeader : List (List ℕ) → Refusal → Type 0
HasNoHeader lines (Line line) = AreHeadless lines × StopsAt lines line
HasNoHeader lines TooMany = ⊥
HasNoHeader lines refusals.NoMemory = ⊤

-- the first of the lines with a word of no clause has this number, counted on from another
pub record HasBadLine (vars : ℕ) (lines : List (List ℕ)) (from line : ℕ) : Type 0 where
  pub before : List (List ℕ)
  pub bad : List ℕ
  pub after : List (List ℕ)
  pub parts : lines ≡ before ++ bad ∷ after
  pub good : All (IsClauseLine vars) before
  pub other : ¬ IsClauseLine vars bad
  pub counted : line + length after ≡ from + length lines

-- the refusal of lines of which one has a word of no clause
abbrev pub IsUnread : ℕ → List (List ℕ) → ℕ → Refusal → Type 0
IsUnread vars lines from (Line line) = HasBadLine vars lines from line
IsUnread vars lines from TooMany = ⊥
IsUnread vars lines from refusals.NoMemory = ⊤

-- the tokens of a clause
abbrev pub clause_tokens : List Lit → List Token
clause_tokens clause = map Literal clause ++ End ∷ []

-- the tokens are the clauses, and the literals of a clause that has not ended
pub record AreClauses
    (tokens : List Token) (clauses : List (List Lit)) (pending : List Lit) : Type 0 where
  pub written : List (List Lit)
  pub tokens_are : tokens ≡ flat_map clause_tokens written ++ map Literal pending
  pub same : HaveExactly clauses written

-- the words are those of tokens, which are the clauses and the literals of the next one
pub record AreTaken (vars : ℕ) (words : List (List ℕ)) (clauses : List (List Lit))
    (pending : List Lit) : Type 0 where
  pub tokens : List Token
  pub words_are : map token_word tokens ≡ words
  pub exist : All (TokenExists vars) tokens
  pub clauses_are : AreClauses tokens clauses pending

-- whatever words were taken before, these were taken after them
abbrev pub TakesWords
    : ℕ → List (List Lit) → List Lit → List (List ℕ) → List (List Lit) → List Lit → Type 0
TakesWords vars clauses pending words new_clauses new_pending =
    (before : List (List ℕ)) → AreTaken vars before clauses pending
    → AreTaken vars (before ++ words) new_clauses new_pending

-- of these lines some are left; the words of the others were taken, and they were counted on
pub record AreRead (vars : ℕ) (clauses : List (List Lit)) (pending : List Lit)
    (lines left : List (List ℕ)) (from line : ℕ) : Type 0 where
  pub before : List (List ℕ)
  pub parts : lines ≡ before ++ left
  pub taken : AreTaken vars (flat_map line_words before) clauses pending
  pub counted : line + length left ≡ from + length lines
