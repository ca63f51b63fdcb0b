-- What is wrong with the pivot or with the clause is wrong with the link.
use Rattle.std.proofs.lemmas.Result.{err_from_is_err_and}
use Rattle.refutation_log.specs.LogText.{pivot_text, link_fields}
use Rattle.refutation_log.specs.NumberRange.{IsInRange, LinkInRange}
use Rattle.list_base.specs.Numeral.{numeral}
use Rattle.refutation_log.proofs.Readings.{error_of_second, number_of_first}
use Rattle.refutation_log.proofs.Pivots.{PivotInRange}
use Rattle.refutation_log.proofs.Links.{link_joined}
use Rattle.refutation_log.proofs.steps.link_of.Goals as goal

pub returns-in_err-number_of-in-Ok : goal.returns-in_err-number_of-in-Ok
returns-in_err-number_of-in-Ok c =
    let p = err_from_is_err_and c.from_residual.result c.from_residual.ensures.1 in
    let joined = link_joined c.args.pivot.now c.args.clause.now in
    rw (p.1, p.2) (error_of_second pivot_text PivotInRange _ numeral IsInRange _ link_fields LinkInRange _ _ _ joined c.in-Ok.ensures.reading.0 c.in_err-number_of-in-Ok.ensures.reading)

pub returns-in_err-number_of-in-Err-Number : goal.returns-in_err-number_of-in-Err-Number
returns-in_err-number_of-in-Err-Number c =
    let p = err_from_is_err_and c.from_residual-in_err-number_of-in-Err-Number.result c.from_residual-in_err-number_of-in-Err-Number.ensures.1 in
    let joined = link_joined c.args.pivot.now c.args.clause.now in
    let bad = rw c.in-Err-Number.field-0-is at c.in-Err-Number.ensures.reading in
    rw (p.1, p.2) (error_of_second pivot_text PivotInRange _ numeral IsInRange _ link_fields LinkInRange _ _ bad.0 joined bad.1 c.in_err-number_of-in-Err-Number.ensures.reading)

pub returns-in_ok-number_of-in-Err-Number : goal.returns-in_ok-number_of-in-Err-Number
returns-in_ok-number_of-in-Err-Number c =
    let joined = link_joined c.args.pivot.now c.args.clause.now in
    let bad = rw c.in-Err-Number.field-0-is at c.in-Err-Number.ensures.reading in
    number_of_first pivot_text PivotInRange _ numeral IsInRange _ link_fields LinkInRange _ _ joined bad c.in_ok-number_of-in-Err-Number.ensures.reading.0
