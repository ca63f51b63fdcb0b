-- With the clauses of its order the formula is exact, its variables exist, and its clauses are few.
use Rattle.std.proofs.Common.{ℕ, ◌++◌, ap, sym, ◌∙◌, subst}
use Rattle.std.specs.List.{All}
use Rattle.clause_core.specs.Clause.{VariablesExist}
use Rattle.order_axioms.specs.Order.{order_list}
use Rattle.clause_encoding.specs.Formula.{clauses_of, variables_of}
use Rattle.clause_encoding.specs.Ordered.{IsOrderOf}
use Rattle.clause_encoding.specs.Variables.{variable_count}
use Rattle.clause_encoding.proofs.FormulaLemmas.{all_appended}
use Rattle.clause_encoding.proofs.OrderLemmas.{all_after, whole_clauses}
use Rattle.clause_encoding.proofs.PropertyLemmas.{formula_exists, formula_few}
use Rattle.clause_encoding.proofs.formula.ordered_formula_of.Goals as goal

pub clauses_after_order-requires-clause-exact : goal.clauses_after_order-requires-clause-exact
clauses_after_order-requires-clause-exact c =
    c.in_ok-vars.ensures.exact ∙ ap (variables_of c.args.property) (sym c.expanded.ensures.same)

pub invariant_of-stored : goal.invariant_of-stored
invariant_of-stored c =
    let x = c.args.a.now in
    let all = order_list c.order_of-order.result ++ c.in_ok-clauses.clauses in
    let count = c.count.ensures ∙ ap variable_count c.in_ok-vars.ensures.exact in
    let appends = whole_clauses c.cycle_clauses_ascend.ensures c.args.property x c.expanded.result.now c.in_ok-vars.vars c.order_of-order.result c.in_ok-clauses.clauses c.expanded.ensures.same c.in_ok-vars.ensures.exact c.order_of-order.ensures c.in_ok-clauses.ensures in
    let exist = subst (λ (n : ℕ). All (VariablesExist n) all) (sym count) (formula_exists c.args.property x all appends) in
    record { variables_exist = all_after (VariablesExist c.count.result) (order_list c.order_of-order.result) c.in_ok-clauses.clauses exist }

pub invariant_of-result : goal.invariant_of-result
invariant_of-result c =
    let x = c.args.a.now in
    let all = order_list c.order_of-order.result ++ c.in_ok-clauses.clauses in
    let count = c.count.ensures ∙ ap variable_count c.in_ok-vars.ensures.exact in
    let appends = whole_clauses c.cycle_clauses_ascend.ensures c.args.property x c.expanded.result.now c.in_ok-vars.vars c.order_of-order.result c.in_ok-clauses.clauses c.expanded.ensures.same c.in_ok-vars.ensures.exact c.order_of-order.ensures c.in_ok-clauses.ensures in
    record { variables_exist = subst (λ (n : ℕ). All (VariablesExist n) all) (sym count) (formula_exists c.args.property x all appends) }

pub returns-clause-exact : goal.returns-clause-exact
returns-clause-exact c =
    let x = c.args.a.now in
    let all = order_list c.order_of-order.result ++ c.in_ok-clauses.clauses in
    let appends = whole_clauses c.cycle_clauses_ascend.ensures c.args.property x c.expanded.result.now c.in_ok-vars.vars c.order_of-order.result c.in_ok-clauses.clauses c.expanded.ensures.same c.in_ok-vars.ensures.exact c.order_of-order.ensures c.in_ok-clauses.ensures in
    record {
      is_whole = record {
        vars = c.count.ensures ∙ ap variable_count c.in_ok-vars.ensures.exact;
        clauses = all_appended all (clauses_of c.args.property x) appends;
      };
      order = subst (λ vars. IsOrderOf vars c.order_of-order.result) c.in_ok-vars.ensures.exact c.order_of-order.ensures;
    }

pub returns-clause-few : goal.returns-clause-few
returns-clause-few c =
    let x = c.args.a.now in
    let all = order_list c.order_of-order.result ++ c.in_ok-clauses.clauses in
    formula_few c.args.property x all (whole_clauses c.cycle_clauses_ascend.ensures c.args.property x c.expanded.result.now c.in_ok-vars.vars c.order_of-order.result c.in_ok-clauses.clauses c.expanded.ensures.same c.in_ok-vars.ensures.exact c.order_of-order.ensures c.in_ok-clauses.ensures)
