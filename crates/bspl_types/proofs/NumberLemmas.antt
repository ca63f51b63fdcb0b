-- A number in decimal begins with a digit.
use Rattle.std.proofs.Common.{◌≢◌, ℕ, ◌^◌, ◌<◌, ◌≤◌, List, ◌∷◌, get_or, ap, inl, inr, arith, decimal}
use Rattle.std.proofs.lemmas.Bool.{cases_eq}
use Rattle.std.proofs.lemmas.Fmt.{decimal_digit, first_decimal}

-- and so with no quote
pub no_text : (n : ℕ) (rest : List ℕ) → n < 2 ^ 64 → decimal n ≢ 34 ∷ rest
no_text n rest small same = absurd (omega (arith, ap (λ s. get_or s 0 0) same, first_digit))
  where
    first_digit : 48 ≤ get_or (decimal n) 0 0
    first_digit = elim (cases_eq n 0) [
      | inl none ↦ omega (arith, ap (λ m. get_or (decimal m) 0 0) none, ap (λ s. get_or s 0 0) (decimal_digit 0 (omega arith)))
      | inr some ↦ omega (arith, first_decimal n (omega (arith, some)) small)
    ]
