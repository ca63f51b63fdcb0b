-- The rules have their questions, or one is refused.
use Rattle.std.proofs.lemmas.Result.{err_from_is_err_and}
use Rattle.ask_commands.proofs.JudgeLemmas.{no_rule_refused, rules_refused}
use Rattle.ask_commands.proofs.rule_questions.asked_rules.Goals as goal

pub returns-in-Err-clause-refused : goal.returns-in-Err-clause-refused
returns-in-Err-clause-refused c =
    let refused = rw (c.as_slice.ensures, c.protocol_text.ensures, c.expanded-x.ensures.same) at c.in-Err.ensures.refused in
    rw (c.error_for.ensures, c.rule_rejection.ensures) (no_rule_refused c.args.protocol.now c.args.input.now c.in-Err.fault refused)

pub returns-in_err-questions-clause-refused : goal.returns-in_err-questions-clause-refused
returns-in_err-questions-clause-refused c =
    let p = err_from_is_err_and c.from_residual.result c.from_residual.ensures.1 in
    let of_text = rw (c.as_slice.ensures, c.protocol_text.ensures, c.expanded-x.ensures.same) at c.in-Ok.ensures.rules in
    let refused = rw (c.as_slice-2.ensures, c.expanded-x.ensures.same) at c.in_err-questions.ensures.refused in
    rw (p.1, p.2) (rules_refused c.args.protocol.now c.args.input.now c.in-Ok.rules c.in_err-questions.field-0.0 of_text refused)
