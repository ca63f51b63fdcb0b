-- The formulas of a protocol, one for each property: in some enactment two rivals are both sent;
-- some enactment is quiet and leaves a public parameter unbound.
use Rattle.std.specs.Prelude.{◌≡◌, ℕ, ◌+◌, List, [], ◌∷◌, ◌++◌, length}
use Rattle.bspl_types.specs.declared.expanded.Expanded.{Expanded}
use Rattle.bspl_types.specs.declared.property.Property.{Property}
use Rattle.bspl_types.specs.declared.property.Property.TheVariants.{Liveness, Safety}
use Rattle.clause_core.specs.declared.formula.Formula.{Formula}
use Rattle.clause_core.specs.declared.literal.Lit.{Lit}
use Rattle.clause_core.specs.Clause.{IsClauseOf}
use Rattle.clause_core.specs.Written.{Written, AreClausesOf}
use Rattle.clause_encoding.specs.declared.variables.Variables.{Variables}
use Rattle.clause_encoding.specs.Families.{shared_clauses}
use Rattle.clause_encoding.specs.Rest.{public_values, rest_clauses, wants_of}
use Rattle.clause_encoding.specs.Rivals.{rival_clauses, rivals_of}
use Rattle.clause_encoding.specs.Variables.{kind_count, variable_count}

-- the last variable before those of order. After the kinds comes, for safety, a selector for each
-- two rivals; for liveness, one for each public parameter that may be unbound, and then one for
-- each parameter that a sender may lack
abbrev pub order_base_of : Property → Expanded → ℕ
order_base_of Safety x = kind_count x + length (rivals_of x)
order_base_of Liveness x = kind_count x + length (public_values x) + length (wants_of x)

-- the variables of the formula
abbrev pub variables_of : Property → Expanded → Variables
variables_of property x =
    record { kinds = kind_count x; order_base = order_base_of property x }

-- the variables with none between those of the kinds and those of order
abbrev pub plain_variables : Expanded → Variables
plain_variables x = record { kinds = kind_count x; order_base = kind_count x }

-- the clauses that only the formula of the property has
abbrev pub own_clauses : Property → Expanded → List Written
own_clauses Safety x = rival_clauses x
own_clauses Liveness x = rest_clauses x

-- the clauses of the formula, in order
abbrev pub clauses_of : Property → Expanded → List Written
clauses_of property x = shared_clauses x (variables_of property x) ++ own_clauses property x

-- the formula has exactly these variables and clauses
pub record IsFormula (property : Property) (x : Expanded) (f : Formula) : Type 0 where
  pub vars : f.vars ≡ variable_count (variables_of property x)
  pub clauses : AreClausesOf (clauses_of property x) f.clauses

-- the variables, the clauses and the formula of safety
abbrev pub safety_variables : Expanded → Variables
safety_variables x = variables_of Safety x

abbrev pub safety_clauses : Expanded → List Written
safety_clauses x = clauses_of Safety x

abbrev pub IsSafetyFormula : Expanded → Formula → Type 0
IsSafetyFormula x f = IsFormula Safety x f

-- and those of liveness
abbrev pub liveness_variables : Expanded → Variables
liveness_variables x = variables_of Liveness x

abbrev pub liveness_clauses : Expanded → List Written
liveness_clauses x = clauses_of Liveness x

abbrev pub IsLivenessFormula : Expanded → Formula → Type 0
IsLivenessFormula x f = IsFormula Liveness x f
