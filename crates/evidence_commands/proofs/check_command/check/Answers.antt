-- The answer is that of the check, once the log is read.
use Rattle.std.proofs.Common.{rules, refl}
use Rattle.evidence_commands.proofs.CheckAnswers.{accepted_answer, rejected_answer}
use Rattle.evidence_commands.proofs.check_command.check.Goals as goal

pub returns-in_ok-accepted_text-in-Ok-clause-ok : goal.returns-in_ok-accepted_text-in-Ok-clause-ok
returns-in_ok-accepted_text-in-Ok-clause-ok c =
    let holds = rw c.property_of.ensures at c.in-Ok.ensures.holds in
    let accepts = rw c.property_of.ensures at c.in-Ok.ensures.ok in
    accepted_answer c.args.protocol.now c.args.part.now c.in_ok-accepted_text-in-Ok.field-0 c.in_ok-kind.kind c.in_ok-kind.log (search rules) accepts holds c.in_ok-accepted_text-in-Ok.ensures

pub returns-in_ok-reject_line-in-Err : goal.returns-in_ok-reject_line-in-Err
returns-in_ok-reject_line-in-Err c =
    let fails = rw c.property_of.ensures at ((c.in-Err.ensures.rejects (search rules) c.in-Err.reject).0 refl) in record {
      ok = rejected_answer c.args.protocol.now c.args.part.now c.in_ok-reject_line-in-Err.field-0 c.in_ok-kind.kind c.in_ok-kind.log c.in-Err.reject (search rules) fails c.in_ok-reject_line-in-Err.ensures;
      refused = tt;
    }
