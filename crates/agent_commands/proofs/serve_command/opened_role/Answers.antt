-- The first line is that of the role, or of no role.
use Rattle.std.proofs.Common.{◌∷◌, length, length-append, ap, arith}
use Rattle.agent_commands.proofs.ServeAnswers.{never_opened, not_opened, opened}
use Rattle.agent_commands.proofs.serve_command.opened_role.Goals as goal

pub returns-in_err-lines-clause-role : goal.returns-in_err-lines-clause-role
returns-in_err-lines-clause-role c =
    let whole = rw c.in_err-lines.was at c.split_once.ensures.whole in
    rw c.from_residual.ensures (never_opened c.args.x.now c.args.part.now (rw whole c.split_once.ensures.first))

pub returns-in_err-role-clause-role : goal.returns-in_err-role-clause-role
returns-in_err-role-clause-role c =
    let whole = rw c.in_ok-lines.was at c.split_once.ensures.whole in
    let none = rw c.in_err-role.was at c.role_of_line.ensures in
    rw c.from_residual-in_err-role.ensures (not_opened c.names_are_fields.ensures c.args.x.now c.args.part.now c.split_once.result.0.now c.in_ok-lines.lines.now c.split_once.ensures.first whole none)

pub returns-clause-role : goal.returns-clause-role
returns-clause-role c =
    let whole = rw c.in_ok-lines.was at c.split_once.ensures.whole in
    let is = rw c.in_ok-role.was at c.role_of_line.ensures in
    opened c.args.x.now c.args.part.now c.split_once.result.0.now c.in_ok-lines.lines.now c.in_ok-role.role is whole

pub returns-clause-within : goal.returns-clause-within
returns-clause-within c =
    let whole = rw c.in_ok-lines.was at c.split_once.ensures.whole in
    omega (arith, ap length whole, length-append c.split_once.result.0.now (10 ∷ c.in_ok-lines.lines.now))
