-- The test of a literal, and clauses of two and of three literals.
use Rattle.std.proofs.Common.{◌≡◌, ◌≢◌, ◌⊎◌, inl, inr, ℕ, Bool, true, false, not, ltb, List, [], ◌∷◌, refl, sym, ap, ◌∙◌, subst, arith}
use Rattle.std.specs.List.{Contains}
use Rattle.std.proofs.lemmas.Bool.{both_ways, cond_both, ltb-false, ltb-true, not-true}
use Rattle.list_base.proofs.Members.{cons_cases, only}
use Rattle.clause_core.specs.declared.literal.Lit.{Lit}
use Rattle.clause_core.specs.Clause.{Satisfies}
use Rattle.clause_core.specs.Literal.{MakesTrue, negated, positive}
use Rattle.clause_encoding.specs.declared.variables.Variables.{Variables}
use Rattle.clause_encoding.specs.Variables.{order_variable}
use Rattle.witness_replay.specs.inner.Order.{is_before, is_true}

-- a literal that is true passes the test
pub passes_if_true : (v : ℕ → Bool) (l : Lit) → MakesTrue v l → is_true v l ≡ true
passes_if_true v l = cond_both l.positive (v l.var) (not (v l.var)) (λ b. v l.var ≡ l.positive → b ≡ true) (λ is makes. makes ∙ is) (λ is makes. ap not (makes ∙ is))

-- and only such a literal
pub true_if_passes : (v : ℕ → Bool) (l : Lit) → is_true v l ≡ true → MakesTrue v l
true_if_passes v l = cond_both l.positive (v l.var) (not (v l.var)) (λ b. b ≡ true → v l.var ≡ l.positive) (λ is passes. passes ∙ sym is) (λ is passes. not-true (v l.var) passes ∙ sym is)

-- a test that the opposite of a literal passes
opposite_passes : (value positive : Bool) → value ≡ not positive → value ≢ positive
opposite_passes value true is same = both_ways value is same
opposite_passes value false is same = both_ways value same is

-- the negation of a literal that passes is not true
pub fails_if_negated : (v : ℕ → Bool) (l : Lit) → MakesTrue v (negated l) → is_true v l ≡ true → ⊥
fails_if_negated v l fails passes = opposite_passes (v l.var) l.positive fails (true_if_passes v l passes)

-- a member of a clause that is true
record IsTrueMember (v : ℕ → Bool) (clause : List Lit) : Type 0 where
  lit : Lit
  among : Contains clause lit
  holds : MakesTrue v lit

-- each satisfied clause has one
true_member : (v : ℕ → Bool) (clause : List Lit) → Satisfies v clause → IsTrueMember v clause
true_member v clause (k, l, within, is, holds) = record { lit = l; among = (k, within, is); holds = holds }

-- what is true of an item is true of what equals it
moved : {X : Type 0} (P : X → Type 0) (x y : X) → x ≡ y → P y → P x
moved P x y same holds = subst P (sym same) holds

-- one of a clause's first literal and the others is true
pub satisfied_cases : (v : ℕ → Bool) (l : Lit) (rest : List Lit) → Satisfies v (l ∷ rest) → MakesTrue v l ⊎ Satisfies v rest
satisfied_cases v l rest satisfied =
    let found = true_member v (l ∷ rest) satisfied in
    elim (cons_cases l rest found.lit found.among) [
      | inl is ↦ inl (moved (MakesTrue v) l found.lit is found.holds)
      | inr later ↦ inr (later.0, found.lit, later.1, later.2, found.holds)
    ]

-- the only literal of a clause is true
pub satisfied_only : (v : ℕ → Bool) (l : Lit) → Satisfies v (l ∷ []) → MakesTrue v l
satisfied_only v l satisfied =
    let found = true_member v (l ∷ []) satisfied in
    moved (MakesTrue v) l found.lit (only l found.lit found.among) found.holds

-- one of three literals is true
pub satisfied_three : (v : ℕ → Bool) (l m n : Lit) → Satisfies v (l ∷ m ∷ n ∷ []) → MakesTrue v l ⊎ (MakesTrue v m ⊎ MakesTrue v n)
satisfied_three v l m n satisfied = elim (satisfied_cases v l (m ∷ n ∷ []) satisfied) [
  | inl one ↦ inl one
  | inr rest ↦ elim (satisfied_cases v m (n ∷ []) rest) [
    | inl other ↦ inr (inl other)
    | inr last ↦ inr (inr (satisfied_only v n last))
  ]
]

-- if a variable is true, then the rest of a clause with its negation is satisfied
pub satisfied_rest : (v : ℕ → Bool) (variable : ℕ) (rest : List Lit) → v variable ≡ true → Satisfies v (negated (positive variable) ∷ rest) → Satisfies v rest
satisfied_rest v variable rest holds satisfied =
    elim (satisfied_cases v (negated (positive variable)) rest satisfied) [
      | inl fails ↦ absurd (both_ways (v variable) fails holds)
      | inr others ↦ others
    ]

-- of two kinds one stands before the other
pub opposite_before : (vars : Variables) (v : ℕ → Bool) (i j : ℕ) → i ≢ j → is_before vars v j i ≡ not (is_before vars v i j)
opposite_before vars v i j apart =
    cond_both (ltb i j) (positive (order_variable vars i j)) (negated (positive (order_variable vars j i))) (λ l. is_before vars v j i ≡ not (is_true v l))
    (λ less. cond_both (ltb j i) (positive (order_variable vars j i)) (negated (positive (order_variable vars i j))) (λ l. is_true v l ≡ not (v (order_variable vars i j)))
    (λ more. let one = ltb-true i j less in let other = ltb-true j i more in absurd (omega arith))
    (λ no_less. refl))
    (λ no_less. cond_both (ltb j i) (positive (order_variable vars j i)) (negated (positive (order_variable vars i j))) (λ l. is_true v l ≡ not (not (v (order_variable vars j i))))
    (λ more. double_not (v (order_variable vars j i)))
    (λ no_more. let one = ltb-false i j no_less in let other = ltb-false j i no_more in absurd (apart (omega arith))))
  where
    double_not : (b : Bool) → b ≡ not (not b)
    double_not true = refl
    double_not false = refl

-- so not both stand before each other
pub not_both_before : (vars : Variables) (v : ℕ → Bool) (i j : ℕ) → i ≢ j → is_before vars v i j ≡ true → is_before vars v j i ≡ true → ⊥
not_both_before vars v i j apart one other = both_ways (is_before vars v j i) (opposite_before vars v i j apart ∙ ap not one) other

-- and if one does not, the other does
pub other_before : (vars : Variables) (v : ℕ → Bool) (i j : ℕ) → i ≢ j → is_before vars v i j ≡ false → is_before vars v j i ≡ true
other_before vars v i j apart none = opposite_before vars v i j apart ∙ ap not none
