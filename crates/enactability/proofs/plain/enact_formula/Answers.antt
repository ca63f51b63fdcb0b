-- The formula has few clauses, as many as with its order.
use Rattle.std.proofs.Common.{◌≡◌, ◌≤◌, length, ap, arith}
use Rattle.std.proofs.lemmas.Result.{IfOk-weaker}
use Rattle.clause_core.specs.declared.formula.Formula.{Formula}
use Rattle.order_axioms.specs.Formula.{whole}
use Rattle.enactability.proofs.ClauseLemmas.{formula_few}
use Rattle.enactability.proofs.plain.enact_formula.Goals as goal

pub returns-clause-few : goal.returns-clause-few
returns-clause-few c =
    let ordered = whole c.in_ok-ordered.ordered in
    let few = formula_few c.clauses_are_as_many.ensures c.enact_clauses_are_few.ensures c.args.a.now c.args.message ordered c.in_ok-ordered.ensures in
    IfOk-weaker c.all_stored.result (λ (f : Formula). f.clauses ≡ ordered.clauses) (λ (f : Formula). length f.clauses ≤ 8000001)
    (λ f same. omega (arith, ap length same, few)) c.all_stored.ensures.clauses
