-- One more history has its waits.
use Rattle.std.proofs.Common.{sym, subst, ◌∙◌}
use Rattle.bspl_types.specs.History.{IsRun}
use Rattle.list_base.proofs.Zipped.{paired_push}
use Rattle.history_audit.specs.inner.Waits.{AreWaits}
use Rattle.history_audit.proofs.PlaceLemmas.{item_history}
use Rattle.history_audit.proofs.waits.all_waits.Goals as goal

pub waits_of-requires-clause-fit : goal.waits_of-requires-clause-fit
waits_of-requires-clause-fit c =
    let is = item_history c.args.histories.now c.loop-history.history-index c.history-item.result c.loop-history-test.true c.history-item.is in
    subst (IsRun c.args.x.now) (sym (c.as_slice.ensures ∙ is)) (c.requires.histories.fit c.loop-history.history-index)

pub loop-history-preserved : goal.loop-history-preserved
loop-history-preserved c =
    let x = c.args.x.now in
    let hs = c.args.histories.now in
    let own = subst (λ events. AreWaits x hs events c.in_ok-own.own) c.as_slice.ensures (subst (λ all. AreWaits x all c.as_slice.result.now c.in_ok-own.own) c.requires.indexed c.in_ok-own.ensures) in
    rw c.in_ok-push.ensures.ok (paired_push (AreWaits x hs) hs c.loop-history.waits c.loop-history.history-index c.history-item.result c.in_ok-own.own c.loop-history-test.true c.history-item.is c.loop-history.invariant own)
