-- The rows of an order: for each kind the kinds after it and those before it.
use Rattle.std.specs.Prelude.{◌≡◌, ◌≢◌, ℕ, ◌+◌, ◌-◌, ◌<◌, ◌≤◌, min, max, List, length, replicate}
use Rattle.std.specs.Prelude.{slice_index_or, map, All, AllPairs}
use Rattle.std.specs.Int.{bit_at}
use Rattle.clause_core.specs.declared.literal.Lit.{Lit}
use Rattle.order_axioms.specs.declared.kind_pair.KindPair.{KindPair}
use Rattle.order_axioms.specs.declared.order.Order.{Order}
use Rattle.order_propagator.specs.declared.bit_rows.BitRows.{BitRows}
use Rattle.order_propagator.specs.declared.order_lit.OrderLit.{OrderLit}
use Rattle.order_propagator.specs.inner.OrderRows.{HasPair, Says}
use Rattle.order_propagator.specs.inner.Bits.{SetsBit, bit}

-- no bit is set
pub record AreBlank (kinds : ℕ) (rows : BitRows) : Type 0 where
  pub after : rows.after.items ≡ replicate (kinds + 1) 0
  pub before : rows.before.items ≡ replicate (kinds + 1) 0

-- the kind has a row of both sorts
pub record HaveRow (rows : BitRows) (kind : ℕ) : Type 0 where
  pub after : kind < length rows.after.items
  pub before : kind < length rows.before.items

-- so have both kinds, which have bits too
pub record HaveRows (rows : BitRows) (pair : KindPair) : Type 0 where
  pub first : HaveRow rows pair.first
  pub second : HaveRow rows pair.second
  pub first_bit : (0 < pair.first) × (pair.first ≤ 128)
  pub second_bit : (0 < pair.second) × (pair.second ≤ 128)

-- the bits of the pair have the value, and the others are as they were
pub record SetsArc (old new : BitRows) (pair : KindPair) (value : ℕ) : Type 0 where
  pub after : SetsBit old.after.items new.after.items pair.first pair.second value
  pub before : SetsBit old.before.items new.before.items pair.second pair.first value

-- 1 if the place is that of a kind after `y` and not after `x`, or before `x` and not before `y`
abbrev pub missing_bit : BitRows → ℕ → ℕ → ℕ → ℕ
missing_bit rows x y i =
    let after = λ (kind : ℕ). bit_at (slice_index_or rows.after.items kind 0) i in
    let before = λ (kind : ℕ). bit_at (slice_index_or rows.before.items kind 0) i in
    max (min (after y) (1 - after x)) (min (before x) (1 - before y))

-- the bit is set exactly if it is said
pub record Tells (value : ℕ) (fact : Type 0) : Type 0 where
  pub said : value ≡ 1 → fact
  pub set : fact → value ≡ 1

-- each kind has a row of both sorts, with the bits of what the literals say
pub record AreRows (order : Order) (lits : List Lit) (rows : BitRows) : Type 0 where
  pub after_rows : length rows.after.items ≡ order.kinds + 1
  pub before_rows : length rows.before.items ≡ order.kinds + 1
  pub after : (x y : ℕ) → 0 < y → y ≤ 128 → Tells (bit rows.after.items x y) (Says order lits x y)
  pub before : (x y : ℕ) → 0 < x → x ≤ 128 → Tells (bit rows.before.items y x) (Says order lits x y)

-- what rows keep of their parts
pub record AreOrderRows (order : Order) (lits : List OrderLit) (rows : BitRows) : Type 0 where
  pub pairs : All (HasPair order) lits
  pub once : AllPairs ◌≢◌ (map (λ l. l.lit) lits)
  pub told : AreRows order (map (λ l. l.lit) lits) rows
