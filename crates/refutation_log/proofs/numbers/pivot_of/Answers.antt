-- What is wrong with the numeral is wrong with the pivot.
use Rattle.std.proofs.Common.{codes}
use Rattle.std.proofs.lemmas.Bool.Decides.{Decides-eqb}
use Rattle.std.proofs.lemmas.Slice.Eq.{strip_prefix_is}
use Rattle.std.proofs.lemmas.Result.{err_from_is_err_and}
use Rattle.refutation_log.specs.LogText.{pivot_text}
use Rattle.refutation_log.specs.NumberRange.{IsInRange}
use Rattle.list_base.specs.Numeral.{numeral}
use Rattle.refutation_log.proofs.Readings.{error_of_whole}
use Rattle.refutation_log.proofs.Pivots.{PivotInRange, negative_field, positive_field}
use Rattle.refutation_log.proofs.numbers.pivot_of.Goals as goal

pub returns-in_err-number_of-in-Some-clause-reading : goal.returns-in_err-number_of-in-Some-clause-reading
returns-in_err-number_of-in-Some-clause-reading c =
    let p = err_from_is_err_and c.from_residual.result c.from_residual.ensures.1 in
    let begins = rw c.in-Some.is at (strip_prefix_is Decides-eqb c.args.field.now (codes "-") c.strip_prefix.result c.strip_prefix.ensures.cases) in
    let part = negative_field c.args.field.now c.in-Some.digits.now begins in
    rw (p.1, p.2) (error_of_whole numeral IsInRange _ pivot_text PivotInRange _ _ part c.in_err-number_of-in-Some.ensures.reading)

pub returns-in_err-number_of-in-None-clause-reading : goal.returns-in_err-number_of-in-None-clause-reading
returns-in_err-number_of-in-None-clause-reading c =
    let p = err_from_is_err_and c.from_residual-in_err-number_of-in-None.result c.from_residual-in_err-number_of-in-None.ensures.1 in
    let other = rw c.in-None.is at (strip_prefix_is Decides-eqb c.args.field.now (codes "-") c.strip_prefix.result c.strip_prefix.ensures.cases) in
    let part = positive_field c.args.field.now other in
    rw (p.1, p.2) (error_of_whole numeral IsInRange _ pivot_text PivotInRange _ _ part c.in_err-number_of-in-None.ensures.reading)
