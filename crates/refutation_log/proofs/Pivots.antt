-- A pivot is read from a numeral, after a minus sign or without one.
use Rattle.std.proofs.Common.{◌≡◌, ℕ, Bool, true, false, cond, List, ◌∷◌, drop, sym, ap, ◌∙◌, arith}
use Rattle.clause_core.specs.declared.literal.Lit.{Lit}
use Rattle.refutation_log.specs.LogText.{pivot_text}
use Rattle.refutation_log.specs.NumberRange.{IsInRange}
use Rattle.list_base.specs.Numeral.{numeral}
use Rattle.list_base.proofs.Numerals.{has_digits}
use Rattle.refutation_log.proofs.Readings.{IsPartOf}

abbrev pub PivotInRange : Lit → Type 0
PivotInRange pivot = IsInRange pivot.var

-- no numeral begins with a minus sign
pub no_minus : (digits : List ℕ) (n : ℕ) → 45 ∷ digits ≡ numeral n → ⊥
no_minus digits n e = absurd (omega (arith, (has_digits (45 ∷ digits) (n, e) 0 0 (omega arith)).0))

negative_only : (digits : List ℕ) (var : ℕ) (positive : Bool) → 45 ∷ digits ≡ cond positive (numeral var) (45 ∷ numeral var) → digits ≡ numeral var
negative_only digits var true e = absurd (no_minus digits var e)
negative_only digits var false e = ap (drop 1) e

pub negative_field : (field digits : List ℕ) → field ≡ 45 ∷ digits → IsPartOf numeral IsInRange digits pivot_text PivotInRange field
negative_field field digits begins = record {
  part = λ pivot e. (pivot.var, negative_only digits pivot.var pivot.positive (sym begins ∙ e), λ good. good);
  whole = λ n e. (record { var = n; positive = false }, begins ∙ ap (λ (ds : List ℕ). 45 ∷ ds) e, λ good. good);
}

positive_only : (field : List ℕ) (var : ℕ) (positive : Bool) → ((digits : List ℕ) → field ≡ 45 ∷ digits → ⊥) → field ≡ cond positive (numeral var) (45 ∷ numeral var) → field ≡ numeral var
positive_only field var true other e = e
positive_only field var false other e = absurd (other (numeral var) e)

pub positive_field : (field : List ℕ) → ((digits : List ℕ) → field ≡ 45 ∷ digits → ⊥) → IsPartOf numeral IsInRange field pivot_text PivotInRange field
positive_field field other = record {
  part = λ pivot e. (pivot.var, positive_only field pivot.var pivot.positive other e, λ good. good);
  whole = λ n e. (record { var = n; positive = true }, e, λ good. good);
}
