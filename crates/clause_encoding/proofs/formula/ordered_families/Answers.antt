-- With the clauses of its order the formula has the shared families, whose variables exist.
use Rattle.std.proofs.Common.{ℕ, ◌++◌, ap, sym, ◌∙◌, subst}
use Rattle.std.specs.List.{All}
use Rattle.clause_core.specs.Clause.{VariablesExist}
use Rattle.order_axioms.specs.Order.{order_list}
use Rattle.clause_encoding.specs.Variables.{kind_count}
use Rattle.clause_encoding.proofs.OrderLemmas.{all_after}
use Rattle.clause_encoding.proofs.SharedLemmas.{families_exist, families_few, whole_families}
use Rattle.clause_encoding.proofs.formula.ordered_families.Goals as goal

pub push_families-requires : goal.push_families-requires
push_families-requires c = record {
  every_kind = c.requires.kinds ∙ ap kind_count (sym c.expanded.ensures.same);
  small = c.requires.small;
}

pub invariant_of-stored : goal.invariant_of-stored
invariant_of-stored c =
    let x = c.args.a.now in
    let vars = c.args.vars in
    let rest = c.push_families.new.clauses in
    let all = order_list c.order_of-order.result ++ rest in
    let are = whole_families c.cycle_clauses_ascend.ensures x c.expanded.result.now vars c.order_of-order.result rest c.expanded.ensures.same c.order_of-order.ensures (rw c.new-clauses.ensures at c.in_ok-push_families.ensures) in
    let exist = subst (λ (n : ℕ). All (VariablesExist n) all) (sym c.count.ensures) (families_exist x vars all (record { every_kind = c.requires.kinds; small = c.requires.small }) are) in
    record { variables_exist = all_after (VariablesExist c.count.result) (order_list c.order_of-order.result) rest exist }

pub invariant_of-result : goal.invariant_of-result
invariant_of-result c =
    let x = c.args.a.now in
    let vars = c.args.vars in
    let rest = c.push_families.new.clauses in
    let all = order_list c.order_of-order.result ++ rest in
    let are = whole_families c.cycle_clauses_ascend.ensures x c.expanded.result.now vars c.order_of-order.result rest c.expanded.ensures.same c.order_of-order.ensures (rw c.new-clauses.ensures at c.in_ok-push_families.ensures) in
    record { variables_exist = subst (λ (n : ℕ). All (VariablesExist n) all) (sym c.count.ensures) (families_exist x vars all (record { every_kind = c.requires.kinds; small = c.requires.small }) are) }

pub returns-clause-exact : goal.returns-clause-exact
returns-clause-exact c = record {
  vars = c.count.ensures;
  clauses = whole_families c.cycle_clauses_ascend.ensures c.args.a.now c.expanded.result.now c.args.vars c.order_of-order.result c.push_families.new.clauses c.expanded.ensures.same c.order_of-order.ensures (rw c.new-clauses.ensures at c.in_ok-push_families.ensures);
}

pub returns-clause-few : goal.returns-clause-few
returns-clause-few c =
    let x = c.args.a.now in
    let vars = c.args.vars in
    let rest = c.push_families.new.clauses in
    families_few x vars (order_list c.order_of-order.result ++ rest) c.requires.small
    (whole_families c.cycle_clauses_ascend.ensures x c.expanded.result.now vars c.order_of-order.result rest c.expanded.ensures.same c.order_of-order.ensures (rw c.new-clauses.ensures at c.in_ok-push_families.ensures))
