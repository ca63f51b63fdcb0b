-- The first limit that is exceeded, or none.
use Rattle.std.proofs.lemmas.Result.{err_from_is_err_and}
use Rattle.protocol_limits.proofs.LimitLemmas.{first_over, none_over}
use Rattle.protocol_limits.proofs.limits.check_limits.Goals as goal

pub returns-in_err-check_each : goal.returns-in_err-check_each
returns-in_err-check_each c =
    let q = err_from_is_err_and c.from_residual-in_err-check_each.result c.from_residual-in_err-check_each.ensures.1 in
    rw (q.1, q.2) (first_over c.args.document.now.protocols c.args.document.now.top c.limits_of-limits.result c.in_err-check_each.field-0.0 c.limits_of-limits.ensures c.in_err-check_each.ensures)

pub returns : goal.returns
returns c = record {
  within = none_over c.args.document.now.protocols c.args.document.now.top c.limits_of-limits.result c.limits_of-limits.ensures c.in_ok-check_each.ensures;
  counted = c.in_ok-totals.ensures;
}
