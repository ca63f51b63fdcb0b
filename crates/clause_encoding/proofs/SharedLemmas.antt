-- The clauses of an order and the families after them are those that every formula has.
use Rattle.std.proofs.Common.{◌≡◌, ◌≤◌, List, [], ◌++◌, length, ap, refl, sym, ◌∙◌, subst, arith, append_assoc}
use Rattle.std.specs.List.{All}
use Rattle.bspl_types.specs.declared.expanded.Expanded.{Expanded}
use Rattle.clause_core.specs.declared.literal.Lit.{Lit}
use Rattle.clause_core.specs.Clause.{VariablesExist}
use Rattle.order_axioms.specs.declared.order.Order.{Order}
use Rattle.order_axioms.specs.Order.{CycleClausesAscend, order_list}
use Rattle.clause_encoding.specs.declared.variables.Variables.{Variables}
use Rattle.clause_encoding.specs.Families.{delivery_clauses, freshness_clauses, occurrence_clauses, order_clauses, premise_clauses, shared_clauses}
use Rattle.clause_encoding.specs.Ordered.{IsOrderOf}
use Rattle.clause_encoding.specs.Variables.{IsSmall, variable_count}
use Rattle.clause_core.specs.Written.{AppendsClauses, Written, AreClausesOf}
use Rattle.clause_encoding.specs.inner.Kinds.{AreOver}
use Rattle.clause_encoding.specs.inner.Order.{families_after_order}
use Rattle.clause_encoding.proofs.AppendsLemmas.{joined}
use Rattle.clause_encoding.proofs.ClauseLengths.{few_shared}
use Rattle.clause_encoding.proofs.FamilyLemmas.{shared_exist}
use Rattle.clause_encoding.proofs.FormulaLemmas.{appended_count, appended_exist}
use Rattle.clause_encoding.proofs.OrderLemmas.{order_are}

-- the families of every formula are the order clauses and those after them
shared_parts : (x : Expanded) (vars : Variables) → shared_clauses x vars ≡ order_clauses vars ++ families_after_order x vars
shared_parts x vars =
    let order = order_clauses vars in
    let occurrence = occurrence_clauses vars in
    let delivery = delivery_clauses x vars in
    let premises = premise_clauses x vars in
    let freshness = freshness_clauses x vars in
    let two = append_assoc order occurrence delivery in
    let three = ap (λ written. written ++ premises) two ∙ append_assoc order (occurrence ++ delivery) premises in
    ap (λ written. written ++ freshness) three ∙ append_assoc order (occurrence ++ delivery ++ premises) freshness

-- so are the clauses of them
families_are : CycleClausesAscend → (x : Expanded) (vars : Variables) (o : Order) (rest : List (List Lit)) → IsOrderOf vars o → AppendsClauses [] rest (families_after_order x vars) → AreClausesOf (shared_clauses x vars) (order_list o ++ rest)
families_are ascend x vars o rest is appends =
    let are : AreClausesOf (families_after_order x vars) rest = subst (AreClausesOf (families_after_order x vars)) (sym appends.follows) appends.are in
    subst (λ (written : List Written). AreClausesOf written (order_list o ++ rest)) (sym (shared_parts x vars))
    (joined (order_clauses vars) (families_after_order x vars) (order_list o) rest (order_are ascend o vars is) are)

-- the same by another name of the protocol
pub whole_families : CycleClausesAscend → (x y : Expanded) (vars : Variables) (o : Order) (rest : List (List Lit)) → y ≡ x → IsOrderOf vars o → AppendsClauses [] rest (families_after_order y vars) → AreClausesOf (shared_clauses x vars) (order_list o ++ rest)
whole_families ascend x y vars o rest same is_order appends =
    families_are ascend x vars o rest is_order (subst (λ (z : Expanded). AppendsClauses [] rest (families_after_order z vars)) same appends)

-- their variables exist
pub families_exist : (x : Expanded) (vars : Variables) (clauses : List (List Lit)) → AreOver x vars → AreClausesOf (shared_clauses x vars) clauses → All (VariablesExist (variable_count vars)) clauses
families_exist x vars clauses over are =
    appended_exist vars (shared_clauses x vars) clauses (record { added = clauses; follows = refl; are = are }) (shared_exist x vars over)

-- and they are few
pub families_few : (x : Expanded) (vars : Variables) (clauses : List (List Lit)) → IsSmall vars → AreClausesOf (shared_clauses x vars) clauses → length clauses ≤ 8000000
families_few x vars clauses small are =
    omega (arith, appended_count (shared_clauses x vars) clauses (record { added = clauses; follows = refl; are = are }), few_shared x vars small.few_kinds)
