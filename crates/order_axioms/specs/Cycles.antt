-- What an order's literals and clauses say of its kinds, the other way round.
use Rattle.std.specs.Prelude.{◌≡◌, ◌≢◌, ℕ}
use Rattle.clause_core.specs.declared.literal.Lit.{Lit}
use Rattle.order_axioms.specs.declared.kind_pair.KindPair.{KindPair}
use Rattle.order_axioms.specs.declared.order.Order.{Order}
use Rattle.order_axioms.specs.Order.{AreKinds, AreTwoKinds, ForbidsCycle, comes_before}

-- the literal says that the first of the two kinds comes before the second, and says no more
pub record IsPair (order : Order) (l : Lit) (pair : KindPair) : Type 0 where
  pub kinds : AreTwoKinds order pair.first pair.second
  pub says : comes_before order pair.first pair.second ≡ l
  pub only : (x y : ℕ) → AreTwoKinds order x y → comes_before order x y ≡ l →
      (x ≡ pair.first) × (y ≡ pair.second)

-- the literal says of no two kinds that one comes before the other
abbrev pub IsNoPair : Order → Lit → Type 0
IsNoPair order l = (x y : ℕ) → AreTwoKinds order x y → comes_before order x y ≢ l

-- each cycle of three kinds is forbidden by a clause of the order
abbrev pub CyclesAreForbidden : Type 0
CyclesAreForbidden =
    (order : Order) (x y z : ℕ) → AreKinds order x y z →
    (number : ℕ) × ForbidsCycle order number x y z
