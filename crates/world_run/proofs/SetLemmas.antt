-- A list in which one item was replaced.
use Rattle.std.proofs.Common.{◌≡◌, ◌≢◌, ℕ, zero, suc, ◌⊎◌, inl, inr, Some, List, [], ◌∷◌, ◌++◌, length, refl, sym, ap, arith}
use Rattle.std.specs.Prelude.{slice_get, slice_set}

-- an item is the new one at its index, or was there before
pub item_after : {X : Type 0} (xs : List X) (i : ℕ) (y : X) (j : ℕ) (z : X) → slice_get (slice_set xs i y) j ≡ Some z → ((j ≡ i) × (y ≡ z)) ⊎ ((j ≢ i) × (slice_get xs j ≡ Some z))
item_after [] i y j z at = absurd (cc)
item_after (x ∷ xs) zero y zero z at = inl (refl, (cc))
item_after (x ∷ xs) zero y (suc j) z at = inr ((λ same. omega (arith, same)), at)
item_after (x ∷ xs) (suc i) y zero z at = inr ((λ same. omega (arith, same)), at)
item_after (x ∷ xs) (suc i) y (suc j) z at = elim (item_after xs i y j z at) [
  | inl here ↦ inl (ap suc here.0, here.1)
  | inr other ↦ inr ((λ same. other.0 (omega (arith, same))), other.1)
]

-- the new item is at its index
pub item_set : {X : Type 0} (xs : List X) (i : ℕ) (y z : X) → slice_get xs i ≡ Some z → slice_get (slice_set xs i y) i ≡ Some y
item_set [] i y z at = absurd (cc)
item_set (x ∷ xs) zero y z at = refl
item_set (x ∷ xs) (suc i) y z at = item_set xs i y z at

-- the others stay
pub item_kept : {X : Type 0} (xs : List X) (i : ℕ) (y : X) (j : ℕ) → j ≢ i → slice_get (slice_set xs i y) j ≡ slice_get xs j
item_kept [] i y j other = refl
item_kept (x ∷ xs) zero y zero other = absurd (other refl)
item_kept (x ∷ xs) zero y (suc j) other = refl
item_kept (x ∷ xs) (suc i) y zero other = refl
item_kept (x ∷ xs) (suc i) y (suc j) other = item_kept xs i y j (λ same. other (ap suc same))

-- an item that is put where it is changes nothing
pub set_same : {X : Type 0} (xs : List X) (i : ℕ) (y : X) → slice_get xs i ≡ Some y → slice_set xs i y ≡ xs
set_same [] i y at = refl
set_same (x ∷ xs) zero y at = let same : x ≡ y = cc in ap (λ z. z ∷ xs) (sym same)
set_same (x ∷ xs) (suc i) y at = ap (λ zs. x ∷ zs) (set_same xs i y at)

-- an item keeps its index in a longer list
pub item_longer : {X : Type 0} (xs more : List X) (i : ℕ) (z : X) → slice_get xs i ≡ Some z → slice_get (xs ++ more) i ≡ Some z
item_longer [] more i z at = absurd (cc)
item_longer (x ∷ xs) more zero z at = at
item_longer (x ∷ xs) more (suc i) z at = item_longer xs more i z at

-- an item of a list with one more is the last one, or was there before
pub item_pushed : {X : Type 0} (xs : List X) (y : X) (i : ℕ) (z : X) → slice_get (xs ++ y ∷ []) i ≡ Some z → ((i ≡ length xs) × (y ≡ z)) ⊎ (slice_get xs i ≡ Some z)
item_pushed [] y zero z at = inl (refl, (cc))
item_pushed [] y (suc i) z at = absurd (cc)
item_pushed (x ∷ xs) y zero z at = inr at
item_pushed (x ∷ xs) y (suc i) z at = elim (item_pushed xs y i z at) [
  | inl last ↦ inl (ap suc last.0, last.1)
  | inr before ↦ inr before
]
