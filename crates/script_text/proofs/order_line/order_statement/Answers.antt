-- A line of the form names a role that is not declared, or messages that it does not send.
use Rattle.std.proofs.lemmas.Result.{err_from_is_err_and}
use Rattle.script_text.proofs.MeaningLemmas.{unknown_role, order_error, some_fields}
use Rattle.script_text.proofs.order_line.order_statement.Goals as goal

pub returns-in_default-role_of : goal.returns-in_default-role_of
returns-in_default-role_of c =
    let some = some_fields _ _ _ c.in-Some-first_field.ensures in
    unknown_role c.args.x.now c.in-Some.name.now _ _ (some, c.in-Some.ensures) c.in_default-role_of.ensures

pub returns-in_err-messages : goal.returns-in_err-messages
returns-in_err-messages c =
    let some = some_fields _ _ _ c.in-Some-first_field.ensures in
    let found = c.in-Some-role_of.ensures in
    let p = err_from_is_err_and c.from_residual.result c.from_residual.ensures.1 in
    rw (p.1, p.2) (order_error c.args.x.now c.in-Some-role_of.role c.in-Some.name.now _ _ _ (some, c.in-Some.ensures) found.0 found.1 c.in_err-messages.ensures)
