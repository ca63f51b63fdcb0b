-- What satisfies a clause: its first literal, a later one, the rest where the first one is a premise,
-- or some variable where not all are false.
use Rattle.std.proofs.Common.{◌≡◌, ℕ, Bool, true, false, List, ◌∷◌, inl, inr, map, ⊎_elim, Contains}
use Rattle.std.specs.List.{list_any}
use Rattle.std.proofs.lemmas.Bool.{cases_Bool}
use Rattle.list_base.proofs.Members.{here, there}
use Rattle.clause_core.specs.declared.literal.Lit.{Lit}
use Rattle.clause_core.specs.Clause.{Satisfies}
use Rattle.clause_core.specs.Literal.{MakesTrue, negated, positive}
use Rattle.first_occurrences.proofs.ListedLemmas.{fails_by, mapped_member, passed, some_member}

-- its first literal is true
pub satisfied_first : (v : ℕ → Bool) (l : Lit) (rest : List Lit) → MakesTrue v l → Satisfies v (l ∷ rest)
satisfied_first v l rest holds = some_member (MakesTrue v) (l ∷ rest) l (here l rest) holds

-- the rest is satisfied
pub satisfied_later : (v : ℕ → Bool) (l : Lit) (rest : List Lit) → Satisfies v rest → Satisfies v (l ∷ rest)
satisfied_later v l rest (k, m, within, is, holds) = some_member (MakesTrue v) (l ∷ rest) m (there l rest m (k, within, is)) holds

-- the rest is satisfied if the variable is true
pub satisfied_if : (v : ℕ → Bool) (variable : ℕ) (rest : List Lit) → (v variable ≡ true → Satisfies v rest) → Satisfies v (negated (positive variable) ∷ rest)
satisfied_if v variable rest then_rest =
    ⊎_elim
    (λ yes. satisfied_later v (negated (positive variable)) rest (then_rest yes))
    (λ none. satisfied_first v (negated (positive variable)) rest none)
    (cases_Bool (v variable))

-- some of the variables is true, unless all are false
pub satisfied_unless : (v : ℕ → Bool) (variables : List ℕ) → (((variable : ℕ) → Contains variables variable → v variable ≡ false) → ⊥) → Satisfies v (map positive variables)
satisfied_unless v variables not_all =
    elim (cases_Bool (list_any v variables)) [
      | inl some ↦
          let found = passed v variables some in
          some_member (MakesTrue v) (map positive variables) (positive found.item) (mapped_member positive variables found.item found.among) found.passes
      | inr none ↦ absurd (not_all (λ variable among. fails_by v variables variable none among))
    ]
