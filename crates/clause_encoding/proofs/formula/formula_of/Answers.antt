-- The formula is exact, its variables exist, and its clauses are few.
use Rattle.std.proofs.Common.{ℕ, [], ap, sym, ◌∙◌, subst}
use Rattle.std.specs.List.{All}
use Rattle.bspl_types.specs.declared.expanded.Expanded.{Expanded}
use Rattle.clause_core.specs.Clause.{VariablesExist}
use Rattle.clause_encoding.specs.Formula.{clauses_of, variables_of}
use Rattle.clause_encoding.specs.Variables.{variable_count}
use Rattle.clause_core.specs.Written.{AppendsClauses}
use Rattle.clause_encoding.proofs.FormulaLemmas.{all_appended}
use Rattle.clause_encoding.proofs.PropertyLemmas.{formula_exists, formula_few}
use Rattle.clause_encoding.proofs.formula.formula_of.Goals as goal

pub clauses_with-requires-clause-exact : goal.clauses_with-requires-clause-exact
clauses_with-requires-clause-exact c =
    c.in_ok-vars.ensures.exact ∙ ap (variables_of c.args.property) (sym c.expanded.ensures.same)

pub invariant_of-result : goal.invariant_of-result
invariant_of-result c =
    let x = c.args.a.now in
    let clauses = c.in_ok-clauses.clauses in
    let count = c.count.ensures ∙ ap variable_count c.in_ok-vars.ensures.exact in
    let are = subst (λ (y : Expanded). AppendsClauses [] clauses (clauses_of c.args.property y)) c.expanded.ensures.same c.in_ok-clauses.ensures in
    record { variables_exist = subst (λ (n : ℕ). All (VariablesExist n) clauses) (sym count) (formula_exists c.args.property x clauses are) }

pub returns-clause-exact : goal.returns-clause-exact
returns-clause-exact c =
    let clauses = c.in_ok-clauses.clauses in
    let are = subst (λ (y : Expanded). AppendsClauses [] clauses (clauses_of c.args.property y)) c.expanded.ensures.same c.in_ok-clauses.ensures in
    record {
      vars = c.count.ensures ∙ ap variable_count c.in_ok-vars.ensures.exact;
      clauses = all_appended clauses (clauses_of c.args.property c.args.a.now) are;
    }

pub returns-clause-few : goal.returns-clause-few
returns-clause-few c = formula_few c.args.property c.expanded.result.now c.in_ok-clauses.clauses c.in_ok-clauses.ensures
