-- One message more is admitted, and at the end all are.
use Rattle.std.proofs.Common.{refl, sym, subst}
use Rattle.std.proofs.lemmas.Bool.{false≢true}
use Rattle.bspl_types.specs.Admission.{IsAdmittedMessage}
use Rattle.protocol_expand.proofs.Firsts.{all_passed}
use Rattle.protocol_expand.proofs.OneReason.{refused_exactly}
use Rattle.protocol_expand.proofs.Refused.{admitted_more}
use Rattle.protocol_expand.proofs.message_fault.check_all.Goals as goal

pub returns-clause-exact : goal.returns-clause-exact
returns-clause-exact c = (λ _. all_passed (IsAdmittedMessage c.args.keys.now) c.args.messages.now c.loop-message.message-index c.loop-message-test.false c.loop-message.invariant, λ _. refl)

pub loop-message-preserved : goal.loop-message-preserved
loop-message-preserved c = admitted_more c.args.keys.now c.args.messages.now c.loop-message.message-index c.message-item.result c.loop-message-test.true c.message-item.is c.loop-message.invariant (c.in_ok-check.ensures.exact.0 refl)

pub returns-in_err-check-clause-exact : goal.returns-in_err-check-clause-exact
returns-in_err-check-clause-exact c =
    refused_exactly _ _ c.from_residual.ensures.0
    (λ all. absurd (false≢true (c.in_err-check.ensures.exact.1 (subst (IsAdmittedMessage c.args.keys.now) (sym c.message-item.is) (all c.loop-message.message-index c.message-item.result c.loop-message-test.true)))))
