-- The pairs of kinds of an order's variables.
use Rattle.std.specs.Prelude.{◌≡◌, ℕ, ◌+◌, true, Some, List, slice_get}
use Rattle.clause_core.specs.declared.literal.Lit.{Lit}
use Rattle.order_axioms.specs.declared.kind_pair.KindPair.{KindPair}
use Rattle.order_axioms.specs.declared.order.Order.{Order}
use Rattle.order_axioms.specs.Cycles.{IsPair}

-- the literal of the variable
abbrev pub positive : ℕ → Lit
positive variable = record { var = variable; positive = true }

-- each pair in a cell is that of a variable of the order, the first of which is in the first cell
pub record ArePairs (order : Order) (cells : List KindPair) : Type 0 where
  pub pair : (index : ℕ) (found : KindPair) → slice_get cells index ≡ Some found →
      IsPair order (positive (order.base + index + 1)) found
