-- The earlier one of both.
use Rattle.std.proofs.Common.{subst, sym}
use Rattle.history_audit.specs.inner.Places.{IsFirstBad, IsFirstUnsent}
use Rattle.history_audit.proofs.WaitLemmas.{first_of_both}
use Rattle.history_audit.proofs.bad_place.first_bad.Goals as goal

pub returns : goal.returns
returns c =
    let x = c.args.x.now in
    let hs = c.args.histories.now in
    let unsent = subst (λ events. IsFirstUnsent x hs events c.first_unsent-unsent.result) c.events.ensures c.first_unsent-unsent.ensures in
    subst (IsFirstBad x hs c.args.index.now) (sym c.min.ensures) (first_of_both x hs c.args.role c.args.index.now c.in_ok-disabled.disabled c.first_unsent-unsent.result c.requires.own c.in_ok-disabled.ensures unsent)
