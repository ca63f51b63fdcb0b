-- The answer is that of the check, once the log is read.
use Rattle.std.proofs.Common.{◌≡◌, rules, refl, subst, arith}
use Rattle.bspl_types.specs.declared.expanded.Expanded.{Expanded}
use Rattle.bspl_types.specs.Expansion.{message_name}
use Rattle.tool_input.specs.Lines.{line}
use Rattle.evidence_commands.specs.CheckDeadAnswer.{accepted_dead_line}
use Rattle.evidence_commands.proofs.CheckDeadAnswers.{accepted_dead, rejected_dead}
use Rattle.evidence_commands.proofs.check_dead_command.check_dead.Goals as goal

pub check_dead-checked-requires-clause-few : goal.check_dead-checked-requires-clause-few
check_dead-checked-requires-clause-few c =
    let x = c.args.protocol.now in
    let few = c.enact_clauses_are_few.ensures x c.in_ok-message.message in
    let steps = c.dead_steps_are_fewer_than_bytes.ensures x c.args.part.now c.in_ok-message.message c.in_ok-message.log (search rules) in
    omega (arith, few, steps, c.requires)

pub returns-in_ok-accepted_dead_text-in-Ok-clause-ok : goal.returns-in_ok-accepted_dead_text-in-Ok-clause-ok
returns-in_ok-accepted_dead_text-in-Ok-clause-ok c =
    let m = c.in_ok-message.message in
    let text = c.in_ok-accepted_dead_text-in-Ok.field-0 in
    let written = subst (λ (x : Expanded). text ≡ line (accepted_dead_line (message_name x m))) c.expanded.ensures.same c.in_ok-accepted_dead_text-in-Ok.ensures in
    accepted_dead c.args.protocol.now c.args.part.now text m c.in_ok-message.log (search rules) c.in-Ok.ensures.ok c.in-Ok.ensures.dead written

pub returns-in_ok-reject_line-in-Err : goal.returns-in_ok-reject_line-in-Err
returns-in_ok-reject_line-in-Err c = record {
  ok = rejected_dead c.args.protocol.now c.args.part.now c.in_ok-reject_line-in-Err.field-0 c.in_ok-message.message c.in_ok-message.log c.in-Err.reject (search rules) ((c.in-Err.ensures.rejects (search rules) c.in-Err.reject).0 refl) c.in_ok-reject_line-in-Err.ensures;
  refused = tt;
}
