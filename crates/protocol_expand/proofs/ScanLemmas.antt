-- Where a search from the first item on is.
use Rattle.std.proofs.Common.{◌≡◌, ℕ, ◌+◌, ◌≤◌, Bool, true, false, List, get_or, Some, sym, ap, ◌∙◌, arith, inl, inr}
use Rattle.std.specs.List.{position}
use Rattle.std.proofs.lemmas.Bool.{cases_lt, false≢true}
use Rattle.std.proofs.lemmas.List.Quantifiers.{position-Some}

-- an item that fails comes before the first that passes
pub before_first : {X : Type 0} (p : X → Bool) (xs : List X) (first i : ℕ) (x : X) → position p xs ≡ Some first → i ≤ first → x ≡ get_or xs i x → p x ≡ false → i + 1 ≤ first
before_first {X} p xs first i x is within item fails = elim (cases_lt i first) [
  | inl below ↦ omega (arith, below)
  | inr above ↦
      let same : i ≡ first = omega (arith, within, above) in
      let passes : p x ≡ true = ap p item ∙ ap (λ k. p (get_or xs k x)) same ∙ (position-Some p xs first x is).1 in
      absurd (false≢true (sym fails ∙ passes))
]

-- one that passes, and does not come after the first, is the first
pub at_first : {X : Type 0} (p : X → Bool) (xs : List X) (first i : ℕ) (x : X) → position p xs ≡ Some first → i ≤ first → x ≡ get_or xs i x → p x ≡ true → position p xs ≡ Some i
at_first {X} p xs first i x is within item passes = elim (cases_lt i first) [
  | inl below ↦
      let fails : p x ≡ false = ap p item ∙ (position-Some p xs first x is).2 i below in
      absurd (false≢true (sym fails ∙ passes))
  | inr above ↦
      let same : first ≡ i = omega (arith, within, above) in
      is ∙ ap Some same
]
