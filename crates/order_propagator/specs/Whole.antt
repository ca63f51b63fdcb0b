-- The formula that has the clauses of an order before those of another.
use Rattle.std.specs.Prelude.{◌≡◌, ◌++◌}
use Rattle.clause_core.specs.declared.formula.Formula.{Formula}
use Rattle.order_axioms.specs.declared.order.Order.{Order}
use Rattle.order_axioms.specs.Order.{order_list}

-- the second formula has the same variables, and the clauses of the order before those of the first
pub record IsWhole (order : Order) (f whole : Formula) : Type 0 where
  pub vars : whole.vars ≡ f.vars
  pub clauses : whole.clauses ≡ order_list order ++ f.clauses
