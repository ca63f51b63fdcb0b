-- The line that the refusal of a text names: the one at which reading stops.
use Rattle.std.specs.Prelude.{◌≡◌, ℕ, ◌+◌, ◌<◌, ◌≤◌, ◌⊎◌, List, [], ◌∷◌, ◌++◌, length, All, codes}
use Rattle.clause_core.specs.declared.literal.Lit.{Lit}
use Rattle.refutation_log.specs.LogText.{pivot_text}
use Rattle.dimacs.specs.Dimacs.{HasHeader, IsHeader, from_first_words, line_words}

-- the word is a literal whose variable exists
pub record IsLiteral (vars : ℕ) (word : List ℕ) : Type 0 where
  pub lit : Lit
  pub word_is : word ≡ pivot_text lit
  pub exists : (0 < lit.var) × (lit.var ≤ vars)

-- the word may stand in a clause: it is a literal, or the `0` after the last one
abbrev pub IsClauseWord : ℕ → List ℕ → Type 0
IsClauseWord vars word = (word ≡ codes "0") ⊎ IsLiteral vars word

-- each word of the line may stand in a clause
abbrev pub IsClauseLine : ℕ → List ℕ → Type 0
IsClauseLine vars line = All (IsClauseWord vars) (line_words line)

-- whoever reads the lines stops at one, and has these still to read
pub data StopsBefore (lines : List (List ℕ)) : List (List ℕ) → Type 0 where
  -- at the last one, since none has words
  no_words : from_first_words lines ≡ [] → StopsBefore lines []
  -- at the first one that has words, since it is no header
  no_header : (line : List ℕ) (after : List (List ℕ)) → from_first_words lines ≡ line ∷ after
      → ((vars clauses : ℕ) → ¬ IsHeader (line_words line) vars clauses) → StopsBefore lines after
  -- at the first one after the header that has a word of no clause
  other_word : (vars clauses : ℕ) (before : List (List ℕ)) (line : List ℕ)
      (after : List (List ℕ)) → HasHeader lines vars clauses (before ++ line ∷ after)
      → All (IsClauseLine vars) before → ¬ IsClauseLine vars line → StopsBefore lines after
  -- at the last one, since each word after the header may stand in a clause
  all_words : (vars clauses : ℕ) (after : List (List ℕ)) → HasHeader lines vars clauses after
      → All (IsClauseLine vars) after → StopsBefore lines []

-- whoever reads the lines stops at the one with this number, from 1
pub record StopsAt (lines : List (List ℕ)) (line : ℕ) : Type 0 where
  pub after : List (List ℕ)
  pub stops : StopsBefore lines after
  pub counted : line + length after ≡ length lines

-- there is at most one such line
abbrev pub StopsOnce : Type 0
StopsOnce = (lines : List (List ℕ)) (m n : ℕ) → StopsAt lines m → StopsAt lines n → m ≡ n
