-- The order clauses, and those after them.
use Rattle.std.specs.Prelude.{ℕ, List, ◌++◌}
use Rattle.std.specs.List.{flat_map}
use Rattle.bspl_types.specs.declared.expanded.Expanded.{Expanded}
use Rattle.bspl_types.specs.declared.property.Property.{Property}
use Rattle.clause_encoding.specs.declared.variables.Variables.{Variables}
use Rattle.clause_encoding.specs.Families.{delivery_clauses, freshness_clauses, occurrence_clauses, order_of_three, premise_clauses}
use Rattle.clause_encoding.specs.Formula.{own_clauses, variables_of}
use Rattle.clause_encoding.specs.Variables.{kinds_following}
use Rattle.clause_core.specs.Written.{Written}

-- the order clauses of two kinds with each later one
abbrev pub order_of_two : Variables → ℕ → ℕ → List Written
order_of_two vars i j = flat_map (order_of_three vars i j) (kinds_following vars j)

-- the order clauses of one kind with each two later ones
abbrev pub order_of_one : Variables → ℕ → List Written
order_of_one vars i = flat_map (order_of_two vars i) (kinds_following vars i)

-- the families of every formula that come after the order clauses
abbrev pub families_after_order : Expanded → Variables → List Written
families_after_order x vars =
    occurrence_clauses vars ++ delivery_clauses x vars ++ premise_clauses x vars ++
    freshness_clauses x vars

-- all clauses of the formula that come after them
abbrev pub clauses_after_order : Property → Expanded → List Written
clauses_after_order property x =
    families_after_order x (variables_of property x) ++ own_clauses property x
