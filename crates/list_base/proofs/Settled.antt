-- Values over at most n steps no longer change once n is the index of a number in an order.
use Rattle.std.proofs.Common.{◌≡◌, ℕ, zero, suc, ◌+◌, ◌<◌, ◌≤◌, List, [], ◌∷◌, Some, length, take, get_or, slice_get, refl, arith, All, Contains}
use Rattle.list_base.proofs.Membership.{early_index}

-- a list whose items are all among none is empty
none_among : (bs : List ℕ) → ((k d : ℕ) → k < length bs → ⊥) → bs ≡ []
none_among [] none = refl
none_among (b ∷ bs) none = absurd (none 0 0 (omega arith))

module _ {X : Type 0} (next : ℕ → List ℕ) (order : List ℕ) (after : (k b : ℕ) → slice_get order k ≡ Some b → All (Contains (take k order)) (next b)) (f : ℕ → ℕ → X) (at_leaf : (n m a : ℕ) → next a ≡ [] → f n a ≡ f m a) (at_branch : (n m a : ℕ) → All (λ b. f n b ≡ f m b) (next a) → f (suc n) a ≡ f (suc m) a) where
  -- the first number of an order has none next
  first_leaf : (k a : ℕ) → slice_get order k ≡ Some a → k ≤ 0 → next a ≡ []
  first_leaf k a at low = none_among (next a) (λ j d within. omega (arith, (early_index order k (get_or (next a) j d) (after k a at j d within)).1))

  -- at most n or m steps give the same value
  pub settled : (n m k a : ℕ) → slice_get order k ≡ Some a → k ≤ n → k ≤ m → f n a ≡ f m a
  settled zero m k a at low_n low_m = at_leaf zero m a (first_leaf k a at low_n)
  settled (suc n) zero k a at low_n low_m = at_leaf (suc n) zero a (first_leaf k a at low_m)
  settled (suc n) (suc m) k a at low_n low_m =
      at_branch n m a (λ j d within.
      let early = early_index order k (get_or (next a) j d) (after k a at j d within) in
      settled n m early.0 (get_or (next a) j d) early.2 (omega (arith, early.1)) (omega (arith, early.1)))

  -- so do they at each number that comes next
  pub settled_below : (n m k a : ℕ) → slice_get order k ≡ Some a → k ≤ n + 1 → k ≤ m + 1 → All (λ b. f n b ≡ f m b) (next a)
  settled_below n m k a at low_n low_m = λ j d within.
      let early = early_index order k (get_or (next a) j d) (after k a at j d within) in
      settled n m early.0 (get_or (next a) j d) early.2 (omega (arith, early.1)) (omega (arith, early.1))
