-- The proof of the formula, or the first failure.
use Rattle.std.proofs.Common.{inl, inr, refl, rules}
use Rattle.more_commands.proofs.lrat_command.proof_reply.Goals as goal

pub returns-in-Ok : goal.returns-in-Ok
returns-in-Ok c = inl (record {
  formula = c.args.formula.now;
  is_formula = refl;
  proves = c.in-Ok.ensures.ok;
  done = refl;
})

pub returns-in_ok-reject_line-in-Err : goal.returns-in_ok-reject_line-in-Err
returns-in_ok-reject_line-in-Err c = inr (record {
  reject = c.in-Err.reject;
  fails = (c.in-Err.ensures.rejects (search rules) c.in-Err.reject).0 refl;
  text = c.in_ok-reject_line-in-Err.ensures;
  refuted = refl;
})
