-- The bits of words, and of the rows of an order.
use Rattle.std.specs.Prelude.{◌≡◌, ◌≢◌, ℕ, ◌-◌, ◌<◌, ◌≤◌, ◌⊎◌, List, length, slice_index_or}
use Rattle.std.specs.Int.{bit_at}

-- the place is that of the word's lowest bit from another on
pub record IsLowestFrom (word from place : ℕ) : Type 0 where
  pub from_on : from ≤ place
  pub within : place < 128
  pub set : bit_at word place ≡ 1
  pub passed : (i : ℕ) → from ≤ i → i < place → bit_at word i ≡ 0

-- the word has no bit from the place on
abbrev pub HasNoneFrom : ℕ → ℕ → Type 0
HasNoneFrom word place = (i : ℕ) → place ≤ i → i < 128 → bit_at word i ≡ 0

-- the bit of kind `y` in the row of kind `x`
abbrev pub bit : List ℕ → ℕ → ℕ → ℕ
bit rows x y = bit_at (slice_index_or rows x 0) (y - 1)

-- the bit has the value, and the others are as they were
pub record SetsBit (old new : List ℕ) (x y value : ℕ) : Type 0 where
  pub rows : length new ≡ length old
  pub here : bit new x y ≡ value
  pub others : (u v : ℕ) → 0 < v → v ≤ 128 → (u ≢ x) ⊎ (v ≢ y) → bit new u v ≡ bit old u v
