-- The clause that the message is sent comes after the shared ones.
use Rattle.std.proofs.lemmas.Result.{IfOk-weaker}
use Rattle.order_axioms.specs.declared.ordered_formula.OrderedFormula.{OrderedFormula}
use Rattle.order_axioms.specs.Formula.{whole}
use Rattle.enactability.specs.EnactFormula.{IsEnactFormula}
use Rattle.enactability.specs.inner.Sent.{AlsoSends}
use Rattle.enactability.proofs.ClauseLemmas.{message_few, sent_too, variable_exists}
use Rattle.enactability.proofs.formula.ordered_enact_formula.Goals as goal

pub with_sent-requires-clause-few : goal.with_sent-requires-clause-few
with_sent-requires-clause-few c = message_few c.args.a.now c.args.message c.requires

pub with_sent-requires-clause-exists : goal.with_sent-requires-clause-exists
with_sent-requires-clause-exists c = variable_exists c.args.a.now c.args.message (whole c.in_ok-shared.shared) c.in_ok-shared.ensures c.requires

pub returns : goal.returns
returns c =
    let x = c.args.a.now in
    let m = c.args.message in
    let shared = whole c.in_ok-shared.shared in
    IfOk-weaker c.with_sent.result (λ (f : OrderedFormula). AlsoSends m shared (whole f)) (λ (f : OrderedFormula). IsEnactFormula x m (whole f))
    (λ f also. sent_too x m shared (whole f) c.in_ok-shared.ensures also) c.with_sent.ensures
