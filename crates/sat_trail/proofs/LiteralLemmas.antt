-- Literals that are one or differ, and whether a clause holds one.
use Rattle.std.proofs.Common.{◌≡◌, ◌≢◌, ℕ, zero, suc, ◌<◌, Bool, true, false, not, List, [], ◌∷◌, ◌⊎◌, inl, inr, length, get_or, sym, ap, refl, ◌∙◌, arith, Contains}
use Rattle.std.proofs.lemmas.Bool.{cases_eq}
use Rattle.clause_core.specs.declared.literal.Lit.{Lit}

-- two truth values are one or differ
pub cases_bool : (a b : Bool) → (a ≡ b) ⊎ (a ≡ not b)
cases_bool true true = inl refl
cases_bool true false = inr refl
cases_bool false true = inr refl
cases_bool false false = inl refl

-- no truth value is its negation
pub not-differs : (b : Bool) → b ≢ not b
not-differs true same = cc
not-differs false same = cc

-- negation undoes itself
pub not-not : (b : Bool) → not (not b) ≡ b
not-not true = refl
not-not false = refl

-- literals with one variable and one sign are one
pub same_literal : (l m : Lit) → l.var ≡ m.var → l.positive ≡ m.positive → l ≡ m
same_literal l m variables signs =
    ap (λ (v : ℕ). let k : Lit = record { var = v; positive = l.positive } in k) variables ∙ ap (λ (b : Bool). let k : Lit = record { var = m.var; positive = b } in k) signs

-- two literals are one or differ
pub cases_literal : (l m : Lit) → (l ≡ m) ⊎ (l ≢ m)
cases_literal l m = elim (cases_eq l.var m.var) [
  | inl variables ↦ elim (cases_bool l.positive m.positive) [
    | inl signs ↦ inl (same_literal l m variables signs)
    | inr opposite ↦ inr (λ same. not-differs m.positive (sym (ap (λ (k : Lit). k.positive) same) ∙ opposite))
  ]
  | inr differs ↦ inr (λ same. differs (ap (λ (k : Lit). k.var) same))
]

-- a literal that is neither the first nor among the others is not in the clause
not_in_either : (m : Lit) (rest : List Lit) (l : Lit) → m ≢ l → ¬ Contains rest l → (k : ℕ) → k < length (m ∷ rest) → get_or (m ∷ rest) k l ≡ l → ⊥
not_in_either m rest l other missing zero within at_index = other at_index
not_in_either m rest l other missing (suc k) within at_index = missing (k, omega arith, at_index)

-- a clause holds a literal or not
pub cases_member : (clause : List Lit) (l : Lit) → Contains clause l ⊎ (¬ Contains clause l)
cases_member [] l = inr (λ among. absurd (omega (arith, among.1)))
cases_member (m ∷ rest) l = elim (cases_literal m l) [
  | inl same ↦ inl (0, omega arith, same)
  | inr other ↦ elim (cases_member rest l) [
    | inl among ↦ inl (suc among.0, omega (arith, among.1), among.2)
    | inr missing ↦ inr (λ among. not_in_either m rest l other missing among.0 among.1 among.2)
  ]
]
