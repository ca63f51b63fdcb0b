-- What is wrong with the entry is wrong with the line.
use Rattle.std.proofs.Common.{◌≢◌, codes, rules}
use Rattle.std.proofs.lemmas.Result.{err_from_is_err_and}
use Rattle.refutation_log.proofs.LineLemmas.{line_error}
use Rattle.refutation_log.proofs.body.body_line.Goals as goal

pub returns-in_err-entry_of : goal.returns-in_err-entry_of
returns-in_err-entry_of c =
    let p = err_from_is_err_and c.from_residual.result c.from_residual.ensures.1 in
    let other : c.args.line.now ≢ codes "end" = search rules in
    rw (p.1, p.2) (line_error c.args.version c.args.line.now _ other c.in_err-entry_of.ensures)
