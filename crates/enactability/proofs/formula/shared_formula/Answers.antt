-- The variables are those of the safety formula.
use Rattle.std.proofs.Common.{subst}
use Rattle.std.proofs.lemmas.Result.{IfOk-weaker}
use Rattle.clause_encoding.specs.declared.variables.Variables.{Variables}
use Rattle.clause_encoding.specs.Formula.{safety_variables}
use Rattle.clause_encoding.specs.Ordered.{IsSharedFormula}
use Rattle.order_axioms.specs.declared.ordered_formula.OrderedFormula.{OrderedFormula}
use Rattle.order_axioms.specs.Formula.{whole}
use Rattle.enactability.proofs.formula.shared_formula.Goals as goal

pub returns : goal.returns
returns c =
    let x = c.args.a.now in
    let vars = c.in_ok-vars.vars in
    IfOk-weaker c.ordered_families.result (λ (f : OrderedFormula). IsSharedFormula x vars (whole f)) (λ (f : OrderedFormula). IsSharedFormula x (safety_variables x) (whole f))
    (λ f is. subst (λ (v : Variables). IsSharedFormula x v (whole f)) c.in_ok-vars.ensures.exact is) c.ordered_families.ensures.exact
