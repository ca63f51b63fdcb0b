-- A formula whose first clauses are those of an order.
use Rattle.std.specs.Prelude.{◌++◌}
use Rattle.clause_core.specs.declared.formula.Formula.{Formula}
use Rattle.order_axioms.specs.declared.ordered_formula.OrderedFormula.{OrderedFormula}
use Rattle.order_axioms.specs.Order.{order_list}

-- the formula with all its clauses, those of the order first
abbrev pub whole : OrderedFormula → Formula
whole f = record {
  vars = f.stored.vars;
  clauses = order_list f.order ++ f.stored.clauses;
  variables_exist = f.variables_exist;
}
