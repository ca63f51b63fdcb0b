-- Which two kinds a variable of an order is of.
use Rattle.std.specs.Prelude.{◌≡◌, ◌≢◌, ℕ, ◌<◌, ◌≤◌}
use Rattle.order_axioms.specs.declared.kind_pair.KindPair.{KindPair}
use Rattle.order_axioms.specs.declared.order.Order.{Order}
use Rattle.order_axioms.specs.Order.{pair_variable}

-- the kinds are two of the order, the lower one first
pub record AreRisingTwo (order : Order) (i j : ℕ) : Type 0 where
  pub from_one : 0 < i
  pub rising : i < j
  pub up_to : j ≤ order.kinds

-- the variable says whether the first of the kinds comes before the second
pub record IsVariableOf (order : Order) (variable : ℕ) (pair : KindPair) : Type 0 where
  pub kinds : AreRisingTwo order pair.first pair.second
  pub is : pair_variable order pair.first pair.second ≡ variable

-- it is of no two kinds
abbrev pub IsOfNone : Order → ℕ → Type 0
IsOfNone order variable =
    (i j : ℕ) → AreRisingTwo order i j → pair_variable order i j ≢ variable
