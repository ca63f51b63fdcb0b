-- The names of a trail's clauses: the numbers that they have in the whole formula.
use Rattle.std.specs.Prelude.{◌≡◌, ℕ, ◌+◌, ◌-◌, ◌<◌, ◌≤◌, Option, Some, List, length, slice_get}
use Rattle.std.specs.Prelude.{slice_index_or, All}
use Rattle.clause_core.specs.declared.literal.Lit.{Lit}
use Rattle.clause_core.specs.Numbering.{live, numbered}
use Rattle.order_axioms.specs.declared.order.Order.{Order}
use Rattle.order_axioms.specs.Order.{order_list}

-- the clause of the number has the name
pub record HasName (names : List ℕ) (number name : ℕ) : Type 0 where
  pub from_one : 0 < number
  pub there : slice_get names (number - 1) ≡ Some name

-- the name of the clause of the number
abbrev pub name_of : List ℕ → ℕ → ℕ
name_of names number = slice_index_or names (number - 1) 0

-- each clause has a name, and is the order's clause of that number if the order has one
pub record AreNamed
    (order : Order) (clauses : List (Option (List Lit))) (names : List ℕ) : Type 0 where
  pub all : length names ≡ length clauses
  pub from_one : All (λ name. 0 < name) names
  pub made : (number name : ℕ) → HasName names number name →
      name ≤ length (order_list order) → live clauses number ≡ numbered (order_list order) name

-- for each name above that of the order's clauses, in ascending order, the number of its clause
pub record ArePlaces (order : Order) (names places : List ℕ) : Type 0 where
  pub placed : (index number : ℕ) → slice_get places index ≡ Some number →
      HasName names number (length (order_list order) + index + 1)
  pub found : (number name : ℕ) → HasName names number name → length (order_list order) < name →
      slice_get places (name - length (order_list order) - 1) ≡ Some number
