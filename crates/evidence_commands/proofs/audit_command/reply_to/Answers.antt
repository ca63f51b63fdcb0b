-- The text names the fault that the audit found, and then no run explains the histories.
use Rattle.std.proofs.Common.{◌≡◌, subst}
use Rattle.bspl_types.specs.declared.expanded.Expanded.{Expanded}
use Rattle.history_audit.specs.Audit.{IsAuditFault}
use Rattle.report.specs.AuditText.{bad_place_line, cycle_line}
use Rattle.evidence_commands.proofs.AuditAnswers.{bad_place_named, cycle_named}
use Rattle.evidence_commands.proofs.audit_command.reply_to.Goals as goal

pub returns-in_ok-bad_place_text-in-Err-Bad : goal.returns-in_ok-bad_place_text-in-Err-Bad
returns-in_ok-bad_place_text-in-Err-Bad c =
    let bad = c.in-Err-Bad in
    let is = bad.field-0-is in
    let text = c.in_ok-bad_place_text-in-Err-Bad.field-0 in
    let first = subst (IsAuditFault c.args.protocol.now c.args.histories.now) is bad.ensures.fault in
    let written = subst (λ (x : Expanded). text ≡ bad_place_line x bad.role bad.place bad.why) c.expanded.ensures.same c.in_ok-bad_place_text-in-Err-Bad.ensures in
    bad_place_named c.args.protocol.now c.args.histories.now bad.role bad.place bad.why text first (bad.ensures.none (λ none. cc)) written

pub returns-in_ok-cycle_text-in-Err-Cycle : goal.returns-in_ok-cycle_text-in-Err-Cycle
returns-in_ok-cycle_text-in-Err-Cycle c =
    let found = c.in-Err-Cycle in
    let is = found.field-0-is in
    let text = c.in_ok-cycle_text-in-Err-Cycle.field-0 in
    let only = subst (IsAuditFault c.args.protocol.now c.args.histories.now) is found.ensures.fault in
    let written = subst (λ (x : Expanded). text ≡ cycle_line x c.as_slice-in-Err-Cycle.result.now) c.expanded-in-Err-Cycle.ensures.same c.in_ok-cycle_text-in-Err-Cycle.ensures in
    cycle_named c.args.protocol.now c.args.histories.now found.points text only (found.ensures.none (λ none. cc)) (rw c.as_slice-in-Err-Cycle.ensures at written)
