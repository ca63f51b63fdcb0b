-- The clauses that a condition is met, with a further variable for each part of a disjunction that
-- is no literal: where the variable is true, the part is met (Plaisted and Greenbaum 1986).
use Rattle.std.specs.Prelude.{ℕ, ◌+◌, List, [], ◌∷◌, ◌++◌}
use Rattle.clause_core.specs.declared.literal.Lit.{Lit}
use Rattle.clause_core.specs.Literal.{negated, positive}
use Rattle.clause_core.specs.Written.{Written}
use Rattle.circuit_clauses.specs.Condition.{Condition, Literal, Both, Either, Always, Never}

abbrev mutual
  -- how many variables stand for parts of a condition that is asserted
  pub asserted_count : Condition → ℕ
  asserted_count (Literal l) = 0
  asserted_count (Both c d) = asserted_count c + asserted_count d
  asserted_count (Either c d) = part_count c + part_count d
  asserted_count Always = 0
  asserted_count Never = 0

  -- how many stand for a part of a disjunction, and for the parts of that part
  pub part_count : Condition → ℕ
  part_count (Literal l) = 0
  part_count (Both c d) = 1 + (asserted_count c + asserted_count d)
  part_count (Either c d) = part_count c + part_count d
  part_count Always = 1
  part_count Never = 0

-- the literals by which a part stands in a disjunction, if its first variable is `n`
abbrev pub part_lits : ℕ → Condition → List Lit
part_lits n (Literal l) = l ∷ []
part_lits n (Both c d) = positive n ∷ []
part_lits n (Either c d) = part_lits n c ++ part_lits (n + part_count c) d
part_lits n Always = positive n ∷ []
part_lits n Never = []

abbrev mutual
  -- the clauses that the condition is met unless a literal of the guard is true; further variables
  -- begin with `n`
  pub asserted : ℕ → List Lit → Condition → List Written
  asserted n guard (Literal l) = (guard ++ l ∷ []) ∷ []
  asserted n guard (Both c d) = asserted n guard c ++ asserted (n + asserted_count c) guard d
  asserted n guard (Either c d) =
      (guard ++ (part_lits n c ++ part_lits (n + part_count c) d)) ∷
      (part_clauses n c ++ part_clauses (n + part_count c) d)
  asserted n guard Always = []
  asserted n guard Never = guard ∷ []

  -- the clauses that a part is met where the variable that stands for it is true
  pub part_clauses : ℕ → Condition → List Written
  part_clauses n (Literal l) = []
  part_clauses n (Both c d) =
      asserted (n + 1) (negated (positive n) ∷ []) c ++
      asserted (n + 1 + asserted_count c) (negated (positive n) ∷ []) d
  part_clauses n (Either c d) = part_clauses n c ++ part_clauses (n + part_count c) d
  part_clauses n Always = []
  part_clauses n Never = []
