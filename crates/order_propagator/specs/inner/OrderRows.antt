-- Which kinds of an order come before which, by literals that hold.
use Rattle.std.specs.Prelude.{◌≡◌, ℕ, ◌<◌, ◌≤◌, List, Contains, IfSome, IfNone, slice_get, Some}
use Rattle.clause_core.specs.declared.literal.Lit.{Lit}
use Rattle.order_axioms.specs.declared.order.Order.{Order}
use Rattle.order_axioms.specs.Cycles.{IsNoPair, IsPair}
use Rattle.order_axioms.specs.Order.{AreKinds, AreTwoKinds, comes_before}
use Rattle.order_propagator.specs.declared.order_lit.OrderLit.{OrderLit}

-- an order, and the literals that hold, in the order in which they came
pub record RowState : Type 0 where
  pub order : Order
  pub lits : List Lit

-- a literal says that kind `x` comes before kind `y`
pub record Says (order : Order) (lits : List Lit) (x y : ℕ) : Type 0 where
  pub kinds : AreTwoKinds order x y
  pub among : Contains lits (comes_before order x y)

-- of three kinds, what follows if `x` comes before `y` is said too
pub record IsComplete (order : Order) (lits : List Lit) (x y z : ℕ) : Type 0 where
  pub after : Says order lits y z → Says order lits x z
  pub before : Says order lits z x → Says order lits z y

-- the kind is the first one from another on with which the two are not complete
pub record IsNextMissing (r : RowState) (x y from kind : ℕ) : Type 0 where
  pub from_on : from ≤ kind
  pub kinds : AreKinds r.order x y kind
  pub passed : (z : ℕ) → from ≤ z → z < kind → IsComplete r.order r.lits x y z
  pub missing : ¬ IsComplete r.order r.lits x y kind

-- with all kinds from this one on the two are complete
abbrev pub IsCompleteFrom : RowState → ℕ → ℕ → ℕ → Type 0
IsCompleteFrom r x y from = (z : ℕ) → from ≤ z → IsComplete r.order r.lits x y z

-- the pair is that of the literal, if it speaks of two kinds
pub record HasPair (order : Order) (l : OrderLit) : Type 0 where
  pub some : IfSome l.pair (IsPair order l.lit)
  pub none : IfNone l.pair (IsNoPair order l.lit)

-- the literal is at the index, and has its pair
pub record IsLitAt (r : RowState) (index : ℕ) (l : OrderLit) : Type 0 where
  pub there : slice_get r.lits index ≡ Some l.lit
  pub pair : HasPair r.order l
