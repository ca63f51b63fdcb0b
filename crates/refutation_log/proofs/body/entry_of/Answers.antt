-- A line that is no step may be a removal.
use Rattle.std.proofs.Common.{◌≢◌, rules}
use Rattle.std.proofs.lemmas.Result.{err_from_is_err_and}
use Rattle.refutation_log.specs.declared.line_error.LineError.TheVariants as errors
use Rattle.refutation_log.proofs.LineLemmas.{step_error, drop_error}
use Rattle.refutation_log.proofs.body.entry_of.Goals as goal

pub returns-in_err-removal_of-in-Err-Form : goal.returns-in_err-removal_of-in-Err-Form
returns-in_err-removal_of-in-Err-Form c =
    let p = err_from_is_err_and c.from_residual.result c.from_residual.ensures.1 in
    let no_step = rw c.in-Err-Form.field-0-is at c.in-Err-Form.ensures in
    rw (p.1, p.2) (drop_error c.args.version c.args.line.now _ no_step c.in_err-removal_of-in-Err-Form.ensures)

pub returns-in-Err : goal.returns-in-Err
returns-in-Err c =
    let other : c.in-Err.error ≢ errors.Form = search rules in
    step_error c.args.version c.args.line.now c.in-Err.error other c.in-Err.ensures
