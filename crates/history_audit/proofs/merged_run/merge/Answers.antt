-- The next event of the role that is ready is merged.
use Rattle.std.proofs.Common.{◌<◌, ◌∙◌, ap, arith, length, refl, subst}
use Rattle.std.proofs.lemmas.Option.{get_or_from_slice_get, slice_get_read}
use Rattle.history_audit.specs.inner.Merging.{IsReady}
use Rattle.history_audit.proofs.PlaceLemmas.{item_history}
use Rattle.history_audit.proofs.MergeLemmas.{ready_before, ready_within, step_keeps, step_less}
use Rattle.history_audit.proofs.merged_run.merge.Goals as goal

pub loop-role-smaller : goal.loop-role-smaller
loop-role-smaller c =
    let x = c.args.x.now in
    let hs = c.args.histories.now in
    let cs = c.loop-role.cursors in
    let role = c.in-Some.role in
    let index = c.at-index.result.now in
    let shown = c.as_slice-history.result.now in
    let e = c.index-history-index.result in
    let ready = subst (λ all. IsReady x hs all role) c.as_slice.ensures c.in-Some.ensures in
    let same = c.as_slice-history.ensures ∙ item_history hs role c.index-histories-role.result (ready_within x hs cs role ready) c.index-histories-role.is in
    let left = ready_before x hs cs role ready in
    let before : index < length shown = omega (arith, left, get_or_from_slice_get cs role index 0 c.at-index.ensures, ap length same) in
    let at = slice_get_read shown _ index e refl before c.index-history-index.is in
    step_less x hs cs c.loop-role.run role index shown e c.requires.histories c.loop-role.invariant ready c.at-index.ensures same at c.replace.new.self c.replace.ensures.list

pub loop-role-preserved : goal.loop-role-preserved
loop-role-preserved c =
    let x = c.args.x.now in
    let hs = c.args.histories.now in
    let cs = c.loop-role.cursors in
    let role = c.in-Some.role in
    let index = c.at-index.result.now in
    let shown = c.as_slice-history.result.now in
    let e = c.index-history-index.result in
    let ready = subst (λ all. IsReady x hs all role) c.as_slice.ensures c.in-Some.ensures in
    let same = c.as_slice-history.ensures ∙ item_history hs role c.index-histories-role.result (ready_within x hs cs role ready) c.index-histories-role.is in
    let left = ready_before x hs cs role ready in
    let before : index < length shown = omega (arith, left, get_or_from_slice_get cs role index 0 c.at-index.ensures, ap length same) in
    let at = slice_get_read shown _ index e refl before c.index-history-index.is in
    step_keeps x hs cs c.loop-role.run role index shown e c.requires.histories c.loop-role.invariant ready c.at-index.ensures same at
    c.legal_by_positions.ensures c.requires.judged.none_bad c.replace.new.self c.push.new.self c.replace.ensures.list c.in_ok-push.ensures.ok
