-- Yes for a log that is read and accepted, and no for nothing else.
use Rattle.std.proofs.Common.{◌≢◌, refl, rules}
use Rattle.log_checker.specs.declared.refusal.Reject.TheVariants as rejects
use Rattle.refutation_log.specs.declared.refusal.LogRefusal.TheVariants as refusals
use Rattle.library_uses.proofs.LogLemmas.{rejected, unread}
use Rattle.library_uses.proofs.log.is_refuted.Goals as goal

pub returns-in-Err-2-clause-exact : goal.returns-in-Err-2-clause-exact
returns-in-Err-2-clause-exact c =
    let known : c.in-Err.refusal ≢ refusals.NoMemory = search rules in
    (λ yes. cc, λ refutation. absurd (unread c.args.f.now c.args.text.now c.read_log.result c.in-Err.refusal c.read_log.ensures.reads c.in-Err.is known refutation))

pub returns-in-Ok-check_log-clause-exact : goal.returns-in-Ok-check_log-clause-exact
returns-in-Ok-check_log-clause-exact c =
    (λ yes. record { kind = c.in-Ok.field-0-0; log = c.in-Ok.log; written = c.in-Ok.ensures.ok; accepted = c.in-Ok-check_log.ensures.ok }, λ refutation. refl)

pub returns-clause-exact : goal.returns-clause-exact
returns-clause-exact c =
    let known : c.in-Err-check_log.error ≢ rejects.NoMemory = search rules in
    (λ yes. cc, λ refutation. absurd (rejected c.args.f.now c.args.text.now c.read_log.result (c.in-Ok.field-0-0, c.in-Ok.log) c.check_log.result c.in-Err-check_log.error c.read_log.ensures.reads c.in-Ok.is c.check_log.ensures.accepts c.in-Err-check_log.is known refutation))
