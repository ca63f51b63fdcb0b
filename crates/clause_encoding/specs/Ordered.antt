-- A formula of a protocol whose order clauses are not stored.
use Rattle.std.specs.Prelude.{◌≡◌}
use Rattle.bspl_types.specs.declared.expanded.Expanded.{Expanded}
use Rattle.bspl_types.specs.declared.property.Property.{Property}
use Rattle.clause_encoding.specs.declared.variables.Variables.{Variables}
use Rattle.clause_core.specs.declared.formula.Formula.{Formula}
use Rattle.clause_core.specs.Written.{AreClausesOf}
use Rattle.clause_encoding.specs.Families.{shared_clauses}
use Rattle.clause_encoding.specs.Formula.{IsFormula, variables_of}
use Rattle.clause_encoding.specs.Variables.{variable_count}
use Rattle.order_axioms.specs.declared.order.Order.{Order}
use Rattle.order_axioms.specs.declared.ordered_formula.OrderedFormula.{OrderedFormula}
use Rattle.order_axioms.specs.Formula.{whole}

-- the order has the kinds of the formula, and its variables come where those of the formula do
pub record IsOrderOf (vars : Variables) (order : Order) : Type 0 where
  pub base : order.base ≡ vars.order_base
  pub kinds : order.kinds ≡ vars.kinds

-- with the clauses of its order it is the formula, and the order is that of all kinds
pub record IsOrderedFormula (property : Property) (x : Expanded) (f : OrderedFormula)
    : Type 0 where
  pub is_whole : IsFormula property x (whole f)
  pub order : IsOrderOf (variables_of property x) f.order

-- the formula has the families of every formula and no more, over the variables
pub record IsSharedFormula (x : Expanded) (variables : Variables) (f : Formula) : Type 0 where
  pub vars : f.vars ≡ variable_count variables
  pub clauses : AreClausesOf (shared_clauses x variables) f.clauses
