-- What the formulas of one protocol share, and what a question adds.
use Rattle.std.specs.Prelude.{◌≡◌, ℕ, ◌+◌, ◌≤◌, List, [], ◌++◌, length, take}
use Rattle.std.specs.List.{All}
use Rattle.bspl_types.specs.declared.expanded.Expanded.{Expanded}
use Rattle.circuit_clauses.specs.Asserted.{asserted, asserted_count}
use Rattle.circuit_clauses.specs.Condition.{Condition}
use Rattle.clause_core.specs.declared.formula.Formula.{Formula}
use Rattle.clause_core.specs.declared.literal.Lit.{Lit}
use Rattle.clause_core.specs.Clause.{VariablesExist}
use Rattle.clause_core.specs.Written.{AreClausesOf}
use Rattle.clause_encoding.specs.Families.{shared_clauses}
use Rattle.clause_encoding.specs.Formula.{plain_variables}
use Rattle.clause_encoding.specs.Variables.{variable_count}
use Rattle.order_axioms.specs.declared.ordered_formula.OrderedFormula.{OrderedFormula}
use Rattle.order_axioms.specs.Order.{order_list}

-- the clauses of the order, and the first stored ones
abbrev pub first_clauses : OrderedFormula → ℕ → List (List Lit)
first_clauses f count = order_list f.order ++ take count f.stored.clauses

-- these are the shared families of the protocol, which are few, over the first variables
pub record KeepsShared (x : Expanded) (count vars : ℕ) (f : OrderedFormula) : Type 0 where
  pub there : count ≤ length f.stored.clauses
  pub counted : vars ≡ variable_count (plain_variables x)
  pub exist : All (VariablesExist vars) (first_clauses f count)
  pub are : AreClausesOf (shared_clauses x (plain_variables x)) (first_clauses f count)
  pub few : length (first_clauses f count) ≤ 8000000

-- the new formula has the order and the first stored clauses of the old one
pub record KeepsFirst (count : ℕ) (old new : OrderedFormula) : Type 0 where
  pub order : new.order ≡ old.order
  pub there : count ≤ length new.stored.clauses
  pub same : take count new.stored.clauses ≡ take count old.stored.clauses

-- the formula says that a condition over so many variables is met, and is not large
pub record IsAsserted (first : ℕ) (c : Condition) (f : Formula) : Type 0 where
  pub vars : f.vars ≡ first + asserted_count c
  pub clauses : AreClausesOf (asserted (first + 1) [] c) f.clauses
  pub few_clauses : length f.clauses ≤ 90000000
  pub few_variables : f.vars ≤ 2000000000

-- the new formula has the first stored clauses of the old one, and says that the condition is met
pub record AssertsToo (count vars : ℕ) (c : Condition) (old new : OrderedFormula) : Type 0 where
  pub own : Formula
  pub is : IsAsserted vars c own
  pub variables : new.stored.vars ≡ own.vars
  pub follows : new.stored.clauses ≡ take count old.stored.clauses ++ own.clauses

-- the new list has the old clauses, and then the first few of the others
pub record AppendsSome (old others new : List (List Lit)) : Type 0 where
  pub count : ℕ
  pub follows : new ≡ old ++ take count others
