-- A fault is one for which no run explains the histories.
use Rattle.std.proofs.Common.{◌≢◌, subst}
use Rattle.std.specs.Prelude.{IfErr}
use Rattle.std.proofs.lemmas.Result.{IfErr-weaker}
use Rattle.history_audit.specs.declared.audit_no.AuditNo.TheVariants.{NoMemory}
use Rattle.history_audit.specs.Audit.{HasNoExplanation, IsAuditFault}
use Rattle.history_audit.proofs.ExplainedLemmas.{fault_unexplained}
use Rattle.history_audit.proofs.explanation.audit.Goals as goal

pub returns-clause-none : goal.returns-clause-none
returns-clause-none c =
    let x = c.args.a.now in
    let hs = c.args.histories.now in
    let r = c.explain.result in
    let fault = subst (λ all. IfErr r (IsAuditFault x all)) c.as_slice.ensures (subst (λ y. IfErr r (IsAuditFault y c.as_slice.result.now)) c.expanded.ensures.same c.explain.ensures.fault) in
    IfErr-weaker r (IsAuditFault x hs) (λ no. no ≢ NoMemory → HasNoExplanation x hs) (fault_unexplained c.bad_place_is_not_explained.ensures c.cycle_is_not_explained.ensures x hs) fault
