-- The text of a proof.
use Rattle.std.specs.Prelude.{ℕ, List, [], ◌∷◌, ◌++◌, codes}
use Rattle.std.specs.List.{flat_map}
use Rattle.clause_core.specs.declared.literal.Lit.{Lit}
use Rattle.refutation_log.specs.LogText.{numeral, pivot_text}
use Rattle.lrat_text.specs.Lrat.{ProofLine, Add, Delete}

-- numbers, each before a space
abbrev pub numbers_text : List ℕ → List ℕ
numbers_text numbers = flat_map (λ n. numeral n ++ codes " ") numbers

-- literals as signed numbers, each before a space
abbrev pub lits_text : List Lit → List ℕ
lits_text clause = flat_map (λ l. pivot_text l ++ codes " ") clause

-- the text of a line; `0` ends literals, hints and deleted clauses
abbrev pub line_text : ProofLine → List ℕ
line_text (Add id clause hints) =
    numbers_text (id ∷ []) ++ lits_text clause ++ codes "0 " ++ numbers_text hints ++ codes "0\n"
line_text (Delete id numbers) =
    numbers_text (id ∷ []) ++ codes "d " ++ numbers_text numbers ++ codes "0\n"
