-- The items of a list by their indices, once an item is set or the list is longer.
use Rattle.std.proofs.Common.{◌≡◌, ◌≢◌, ◌⊎◌, ℕ, zero, suc, ◌+◌, ◌<◌, List, [], ◌∷◌, ◌++◌, length, set, replicate, Some, slice_get, refl, sym, ap, inl, inr, arith, length-append}
use mathlib.Core.Option.{some, some-injective, some-ne-none}
use lib.ListN.{get_elem?}

-- an item that the queue's look-up finds
pub view_at : {X : Type 0} (xs : List X) (i : ℕ) (x : X) → get_elem? xs i ≡ some x → slice_get xs i ≡ Some x
view_at [] i x found = absurd (some-ne-none x (sym found))
view_at (y ∷ ys) zero x found = ap Some (some-injective y x found)
view_at (y ∷ ys) (suc i) x found = view_at ys i x found

-- once an item is set, an item is that one or another
pub set_cases : {X : Type 0} (xs : List X) (s t : ℕ) (x y : X) → slice_get (set xs s x) t ≡ Some y → ((t ≡ s) × (x ≡ y)) ⊎ ((t ≢ s) × (slice_get xs t ≡ Some y))
set_cases [] s t x y found = absurd (cc found)
set_cases (z ∷ zs) zero zero x y found = inl (refl, cc found)
set_cases (z ∷ zs) zero (suc t) x y found = inr ((λ same. omega arith), found)
set_cases (z ∷ zs) (suc s) zero x y found = inr ((λ same. omega arith), found)
set_cases (z ∷ zs) (suc s) (suc t) x y found = elim (set_cases zs s t x y found) [
  | inl (same, is) ↦ inl (ap suc same, is)
  | inr (apart, there) ↦ inr ((λ same. apart (omega arith)), there)
]

-- the item that is set
pub set_here : {X : Type 0} (xs : List X) (s : ℕ) (x y : X) → slice_get xs s ≡ Some y → slice_get (set xs s x) s ≡ Some x
set_here [] s x y found = absurd (cc found)
set_here (z ∷ zs) zero x y found = refl
set_here (z ∷ zs) (suc s) x y found = set_here zs s x y found

-- and each other one
pub set_else : {X : Type 0} (xs : List X) (s t : ℕ) (x : X) → t ≢ s → slice_get (set xs s x) t ≡ slice_get xs t
set_else [] s t x apart = refl
set_else (z ∷ zs) zero zero x apart = absurd (apart refl)
set_else (z ∷ zs) zero (suc t) x apart = refl
set_else (z ∷ zs) (suc s) zero x apart = refl
set_else (z ∷ zs) (suc s) (suc t) x apart = set_else zs s t x (λ same. apart (ap suc same))

-- an item that is set to what it is
pub set_same : {X : Type 0} (xs : List X) (i : ℕ) (x : X) → slice_get xs i ≡ Some x → set xs i x ≡ xs
set_same [] i x found = refl
set_same (y ∷ ys) zero x found = let same : y ≡ x = cc found in ap (λ z. z ∷ ys) (sym same)
set_same (y ∷ ys) (suc i) x found = ap (λ zs. y ∷ zs) (set_same ys i x found)

-- an item of two lists together is one of the first, or of the second
pub append_cases : {X : Type 0} (xs ys : List X) (i : ℕ) (x : X) → slice_get (xs ++ ys) i ≡ Some x → (slice_get xs i ≡ Some x) ⊎ ((j : ℕ) × (i ≡ length xs + j) × (slice_get ys j ≡ Some x))
append_cases [] ys i x found = inr (i, omega arith, found)
append_cases (z ∷ zs) ys zero x found = inl found
append_cases (z ∷ zs) ys (suc i) x found = elim (append_cases zs ys i x found) [
  | inl here ↦ inl here
  | inr (j, is, there) ↦ inr (j, omega (arith, is), there)
]

-- an item of a longer list is the last one, or one of the list before
pub last_cases : {X : Type 0} (xs : List X) (x : X) (i : ℕ) (y : X) → slice_get (xs ++ x ∷ []) i ≡ Some y → (slice_get xs i ≡ Some y) ⊎ ((i ≡ length xs) × (x ≡ y))
last_cases [] x zero y found = inr (refl, cc found)
last_cases [] x (suc i) y found = absurd (cc found)
last_cases (z ∷ zs) x zero y found = inl found
last_cases (z ∷ zs) x (suc i) y found = elim (last_cases zs x i y found) [
  | inl here ↦ inl here
  | inr (is, same) ↦ inr (omega (arith, is), same)
]

-- an item stays where it is in a longer list
pub append_here : {X : Type 0} (xs ys : List X) (i : ℕ) (x : X) → slice_get xs i ≡ Some x → slice_get (xs ++ ys) i ≡ Some x
append_here [] ys i x found = absurd (cc found)
append_here (z ∷ zs) ys zero x found = found
append_here (z ∷ zs) ys (suc i) x found = append_here zs ys i x found

-- the last item
pub append_last : {X : Type 0} (xs : List X) (x : X) → slice_get (xs ++ x ∷ []) (length xs) ≡ Some x
append_last [] x = refl
append_last (z ∷ zs) x = append_last zs x

-- how many there are then
pub one_longer : {X : Type 0} (xs xs' : List X) (x : X) (n : ℕ) → xs' ≡ xs ++ x ∷ [] → length xs ≡ n → length xs' ≡ n + 1
one_longer xs xs' x n more count = omega (arith, ap length more, length-append xs (x ∷ []), count)

-- each item of a list of equal ones
pub replicate_at : {X : Type 0} (n i : ℕ) (x y : X) → slice_get (replicate n x) i ≡ Some y → x ≡ y
replicate_at zero i x y found = absurd (cc found)
replicate_at (suc n) zero x y found = cc found
replicate_at (suc n) (suc i) x y found = replicate_at n i x y found

-- there are as many
pub replicate_here : {X : Type 0} (n i : ℕ) (x : X) → i < n → slice_get (replicate n x) i ≡ Some x
replicate_here zero i x within = absurd (omega arith)
replicate_here (suc n) zero x within = refl
replicate_here (suc n) (suc i) x within = replicate_here n i x (omega arith)
