-- The clauses of the order are the order clauses.
use Rattle.std.proofs.Common.{ap, ◌∙◌, ◌++◌}
use Rattle.std.proofs.lemmas.Result.{IfOk-weaker}
use Rattle.order_axioms.specs.Order.{order_list}
use Rattle.clause_encoding.proofs.OrderLemmas.{appends_order}
use Rattle.clause_encoding.proofs.order.push_order.Goals as goal

pub returns : goal.returns
returns c =
    let old = c.args.clauses.now in
    IfOk-weaker c.push_all.result _ _
    (λ _ pushed. appends_order c.cycle_clauses_ascend.ensures c.order_of.result c.args.vars old c.push_all.new.clauses c.order_of.ensures
    (pushed ∙ ap (λ o. old ++ order_list o) c.in_ok-new.ensures))
    c.push_all.ensures
