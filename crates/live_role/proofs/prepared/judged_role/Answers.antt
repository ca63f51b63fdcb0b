-- What becomes of a role whose opening was read.
use Rattle.std.proofs.Common.{refl}
use Rattle.live_role.specs.Call.{judged}
use Rattle.live_role.proofs.JudgedLemmas.{begins, refused_journal}
use Rattle.live_role.proofs.prepared.judged_role.Goals as goal

pub returns-in-Ok-Declined-clause-known : goal.returns-in-Ok-Declined-clause-known
returns-in-Ok-Declined-clause-known g c = λ old new opening.
    let declines = rw c.in-Ok-Declined.field-0-is at c.in-Ok-Declined.ensures in
    judged c.args.opened.text c.args.opened.ahead opening (rw c.as_slice.ensures at declines)

pub returns-in-Ok-clause-known : goal.returns-in-Ok-clause-known
returns-in-Ok-clause-known g c = λ old new opening.
    let accepts = rw c.in-Ok-Accepted.field-0-is at c.in-Ok-Accepted.ensures in
    begins _ _ old new c.args.opened.text c.args.opened.ahead c.in-Ok-Accepted.protocol c.in-Ok-Accepted.role opening (rw c.as_slice.ensures at accepts) c.in-Ok.begun.role c.in-Ok.begun.journal c.in-Ok.ensures.ok

pub returns-in-Err-Refused-clause-known : goal.returns-in-Err-Refused-clause-known
returns-in-Err-Refused-clause-known g c = λ old new opening.
    let accepts = rw c.in-Ok-Accepted.field-0-is at c.in-Ok-Accepted.ensures in
    let cannot = rw c.in-Err-Refused.field-0-is at c.in-Err-Refused.ensures.err in
    rw c.replied.ensures (refused_journal _ _ old new c.args.opened.text c.args.opened.ahead c.in-Ok-Accepted.protocol c.in-Ok-Accepted.role opening (rw c.as_slice.ensures at accepts) _ c.in-Err-Refused.refusal c.unopened.result refl cannot c.unopened.ensures)
