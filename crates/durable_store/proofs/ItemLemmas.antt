-- The items of a list with one more, and of a mapped list, by their indices.
use Rattle.std.proofs.Common.{◌≡◌, ℕ, zero, suc, ◌<◌, ◌⊎◌, inl, inr, List, [], ◌∷◌, ◌++◌, length, map, Some, refl, ap, arith}
use Rattle.std.specs.Prelude.{slice_get}
use Rattle.std.proofs.lemmas.Option.{same_Some, slice_get_cases}

-- the last item of a longer list, or an earlier one
pub item_cases : {X : Type 0} (xs : List X) (x : X) (k : ℕ) (y : X) → slice_get (xs ++ x ∷ []) k ≡ Some y → ((k ≡ length xs) × (x ≡ y)) ⊎ ((k < length xs) × (slice_get xs k ≡ Some y))
item_cases [] x zero y at = inl (refl, same_Some x y at)
item_cases [] x (suc k) y at = absurd (cc)
item_cases (z ∷ xs) x zero y at = inr (omega arith, at)
item_cases (z ∷ xs) x (suc k) y at = elim (item_cases xs x k y at) [
  | inl last ↦ inl (omega (arith, last.0), last.1)
  | inr early ↦ inr (omega (arith, early.0), early.1)
]

-- an index within has an item
pub item_within : {X : Type 0} (xs : List X) (k : ℕ) → k < length xs → (x : X) × (slice_get xs k ≡ Some x)
item_within xs k within = elim (slice_get_cases xs k).1 [
  | inl (x, less, at, is) ↦ (x, at)
  | inr (past, none) ↦ absurd (omega (arith, past, within))
]

-- an item of a mapped list is that of an item
pub mapped_item : {X A : Type 0} (f : X → A) (xs : List X) (k : ℕ) (b : A) → slice_get (map f xs) k ≡ Some b → (x : X) × (slice_get xs k ≡ Some x) × (f x ≡ b)
mapped_item f [] k b at = absurd (cc)
mapped_item f (x ∷ xs) zero b at = (x, refl, same_Some (f x) b at)
mapped_item f (x ∷ xs) (suc k) b at = mapped_item f xs k b at

-- and each item has one
pub item_mapped : {X A : Type 0} (f : X → A) (xs : List X) (k : ℕ) (x : X) → slice_get xs k ≡ Some x → slice_get (map f xs) k ≡ Some (f x)
item_mapped f [] k x at = absurd (cc)
item_mapped f (y ∷ xs) zero x at = ap (λ z. Some (f z)) (same_Some y x at)
item_mapped f (y ∷ xs) (suc k) x at = item_mapped f xs k x at
