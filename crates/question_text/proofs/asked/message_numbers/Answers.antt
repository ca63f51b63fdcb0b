-- The first unknown name comes after known ones.
use Rattle.std.proofs.lemmas.Result.{err_from_is_err_and}
use Rattle.question_text.proofs.MeaningLemmas.{unknown_among}
use Rattle.question_text.proofs.asked.message_numbers.Goals as goal

pub returns-in_err-number-clause-refused : goal.returns-in_err-number-clause-refused
returns-in_err-number-clause-refused c =
    let p = err_from_is_err_and c.from_residual.result c.from_residual.ensures.1 in
    rw (p.1, p.2) (unknown_among c.args.x.now c.args.names.now c.loop-name.name-index c.name-item.result c.in_err-number.field-0.0 c.loop-name.numbers c.loop-name-test.true c.name-item.is c.loop-name.invariant c.in_err-number.ensures.refused)
