-- The log is accepted, or fails first.
use Rattle.std.proofs.Common.{inl, inr, refl, rules}
use Rattle.formula_check.proofs.answer.log_answer.Goals as goal

pub returns-in_ok-from_slice-in-Ok : goal.returns-in_ok-from_slice-in-Ok
returns-in_ok-from_slice-in-Ok c = λ text read. inl (record {
  formula = c.args.formula.now;
  read = read;
  accepts = c.in-Ok.ensures.ok;
  none = λ v all. c.in-Ok.ensures.sound v ((c.formulas_are_as_written.ensures.satisfied text c.args.formula.now read v).1 all);
  says = c.in_ok-from_slice-in-Ok.ensures;
  done = refl;
})

pub returns-in_ok-reject_line-in-Err : goal.returns-in_ok-reject_line-in-Err
returns-in_ok-reject_line-in-Err c = λ text read. inr (record {
  formula = c.args.formula.now;
  read = read;
  reject = c.in-Err.reject;
  fails = (c.in-Err.ensures.rejects (search rules) c.in-Err.reject).0 refl;
  says = c.in_ok-reject_line-in-Err.ensures;
  refuted = refl;
})
