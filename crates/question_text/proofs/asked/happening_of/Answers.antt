-- An unknown role comes first, then an unknown parameter.
use Rattle.std.proofs.Common.{[], ◌∷◌}
use Rattle.std.proofs.lemmas.Result.{err_from_is_err_and}
use Rattle.question_text.specs.declared.unknown.UnknownName.TheVariants.{Parameter, Role}
use Rattle.question_text.proofs.MeaningLemmas.{known_role}
use Rattle.question_text.proofs.UnknownLemmas.{unknown_left, unknown_right}
use Rattle.question_text.proofs.asked.happening_of.Goals as goal

pub returns-in_err-role-in-Knows-clause-refused : goal.returns-in_err-role-in-Knows-clause-refused
returns-in_err-role-in-Knows-clause-refused c =
    let p = err_from_is_err_and c.from_residual-in_err-role-in-Knows.result c.from_residual-in_err-role-in-Knows.ensures.1 in
    let x = c.args.x.now in
    rw (p.1, p.2, c.in-Knows.is) (unknown_left x (Role c.in-Knows.role ∷ []) (Parameter c.in-Knows.param ∷ []) c.in_err-role-in-Knows.field-0.0 c.in_err-role-in-Knows.ensures.refused)

pub returns-in_err-param-in-Knows-clause-refused : goal.returns-in_err-param-in-Knows-clause-refused
returns-in_err-param-in-Knows-clause-refused c =
    let p = err_from_is_err_and c.from_residual-in_err-param-in-Knows.result c.from_residual-in_err-param-in-Knows.ensures.1 in
    let x = c.args.x.now in
    rw (p.1, p.2, c.in-Knows.is) (unknown_right x (Role c.in-Knows.role ∷ []) (Parameter c.in-Knows.param ∷ []) c.in_err-param-in-Knows.field-0.0 (known_role x c.in-Knows.role c.in_ok-role-in-Knows.role c.in_ok-role-in-Knows.ensures.named) c.in_err-param-in-Knows.ensures.refused)
