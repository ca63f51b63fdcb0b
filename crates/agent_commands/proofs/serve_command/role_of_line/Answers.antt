-- The line is `role`, a space and the name of the role that is found.
use Rattle.std.proofs.lemmas.Bool.Decides.{Decides-eqb}
use Rattle.std.proofs.lemmas.Slice.Eq.{strip_prefix_is}
use Rattle.agent_commands.specs.declared.wording.TheConstants.{ROLE}
use Rattle.agent_commands.proofs.ServeAnswers.{named_line, no_role_named}
use Rattle.agent_commands.proofs.serve_command.role_of_line.Goals as goal
use Rattle.bspl_types.specs.Expansion.{role_name}

pub returns-in_err-name : goal.returns-in_err-name
returns-in_err-name c =
    let other = rw (c.in_err-name.was) at (strip_prefix_is Decides-eqb c.args.first.now ROLE.now c.strip_prefix.result c.strip_prefix.ensures.cases) in
    rw c.from_residual.ensures (λ role of. other (role_name c.args.x.now role) of.is_line)

pub returns-in_err-role : goal.returns-in_err-role
returns-in_err-role c =
    let whole = rw (c.in_ok-name.was) at (strip_prefix_is Decides-eqb c.args.first.now ROLE.now c.strip_prefix.result c.strip_prefix.ensures.cases) in
    let none = rw c.in_err-role.was at c.role_named.ensures in
    rw c.from_residual-in_err-role.ensures (no_role_named c.args.x.now c.args.first.now c.in_ok-name.name.now whole none)

pub returns : goal.returns
returns c =
    let whole = rw (c.in_ok-name.was) at (strip_prefix_is Decides-eqb c.args.first.now ROLE.now c.strip_prefix.result c.strip_prefix.ensures.cases) in
    let named = rw c.in_ok-role.was at c.role_named.ensures in
    named_line c.args.x.now c.args.first.now c.in_ok-name.name.now c.in_ok-role.role whole named
