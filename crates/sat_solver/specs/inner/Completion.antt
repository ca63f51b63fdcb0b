-- When values order kinds by their places.
use Rattle.std.specs.Prelude.{◌≡◌, ℕ, ◌+◌, ◌<◌, Bool, List, nat_lt, slice_index_or}
use Rattle.order_axioms.specs.declared.order.Order.{Order}
use Rattle.order_axioms.specs.Order.{pair_variable}

-- the kind comes before a later one, of those below `end`, exactly if its place is lower
abbrev pub AreByPlaces : Order → (ℕ → Bool) → List ℕ → ℕ → ℕ → Type 0
AreByPlaces order v places i end = (j : ℕ) → i < j → j < end →
    v (pair_variable order i j) ≡ nat_lt (slice_index_or places i 0) (slice_index_or places j 0)

-- so it is with each kind and all later ones
pub record IsByPlaces (order : Order) (v : ℕ → Bool) (places : List ℕ) : Type 0 where
  pub each : (i : ℕ) → 0 < i → i < order.kinds → AreByPlaces order v places i (order.kinds + 1)
