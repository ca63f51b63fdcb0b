-- The path goes on to the sender, until a role comes again.
use Rattle.std.proofs.Common.{◌≢◌, ◌∙◌, List, ap, drop, subst, sym}
use Rattle.std.specs.Prelude.{slice_get}
use Rattle.std.specs.List.{All}
use Rattle.std.proofs.lemmas.List.{take_rest}
use Rattle.std.proofs.lemmas.Result.{IfOk-weaker}
use Rattle.bspl_types.specs.declared.event.Event.{Event}
use Rattle.bspl_types.specs.History.{IsRun}
use Rattle.history_audit.specs.declared.audit_no.Point.{Point}
use Rattle.history_audit.specs.inner.Merging.{cursor_at}
use Rattle.history_audit.specs.inner.Rings.{HasRoleAt, IsRing}
use Rattle.history_audit.proofs.PlaceLemmas.{item_history}
use Rattle.history_audit.proofs.CycleLemmas.{fewer_left, next_event, path_more, ring_closed, unfinished_within, waits_for}
use Rattle.history_audit.proofs.cycle.ring_from.Goals as goal

pub returns-in-Some : goal.returns-in-Some
returns-in-Some c =
    let r = c.requires in
    let x = c.args.x.now in
    let hs = c.args.histories.now in
    let found = subst (λ ps. HasRoleAt ps c.path.role c.in-Some.first) c.as_slice.ensures c.in-Some.ensures in
    let ring = ring_closed x hs c.args.cursors.now r.admitted r.histories r.sent r.count r.stuck c.path.path c.path.role c.in-Some.first c.path.invariant found in
    IfOk-weaker c.from_slice.result _ (IsRing x hs) (λ list is. subst (IsRing x hs) (sym (is ∙ take_rest c.as_slice-in-Some.result.now c.in-Some.first ∙ ap (drop c.in-Some.first) c.as_slice-in-Some.ensures)) ring) c.from_slice.ensures

pub sender_of-role-requires-clause-fit : goal.sender_of-role-requires-clause-fit
sender_of-role-requires-clause-fit c =
    let r = c.requires in
    let x = c.args.x.now in
    let hs = c.args.histories.now in
    let role = c.path.role in
    let within = unfinished_within x hs c.args.cursors.now r.admitted r.histories r.sent r.count r.stuck role c.path.invariant.unfinished in
    subst (IsRun x) (sym (c.as_slice-history.ensures ∙ item_history hs role c.index-histories-role.result within c.index-histories-role.is)) (r.histories.fit role)

pub path-smaller : goal.path-smaller
path-smaller c =
    let r = c.requires in
    let x = c.args.x.now in
    let hs = c.args.histories.now in
    let cs = c.args.cursors.now in
    let role = c.path.role in
    let sender = c.sender_of-role.result in
    let unfinished = c.path.invariant.unfinished in
    let within = unfinished_within x hs cs r.admitted r.histories r.sent r.count r.stuck role unfinished in
    let same = c.as_slice-history.ensures ∙ item_history hs role c.index-histories-role.result within c.index-histories-role.is in
    let (e, at) = next_event x hs cs r.admitted r.histories r.sent r.count r.stuck role unfinished in
    let is = c.sender_of-role.ensures e (ap (λ (es : List Event). slice_get es (cursor_at cs role)) same ∙ at) in
    let waits = waits_for x hs cs r.admitted r.histories r.sent r.count r.stuck role sender e at is in
    let other = subst (All (λ (p : Point). p.role ≢ role)) c.as_slice.ensures c.in_default.ensures in
    let longer = path_more x hs cs r.admitted r.histories r.sent r.count r.stuck c.path.path role sender c.path.invariant other waits in
    rw c.in_ok-push.ensures.ok (fewer_left x hs cs r.admitted r.histories r.sent r.count r.stuck c.path.path role sender longer)

pub path-preserved : goal.path-preserved
path-preserved c =
    let r = c.requires in
    let x = c.args.x.now in
    let hs = c.args.histories.now in
    let cs = c.args.cursors.now in
    let role = c.path.role in
    let sender = c.sender_of-role.result in
    let unfinished = c.path.invariant.unfinished in
    let within = unfinished_within x hs cs r.admitted r.histories r.sent r.count r.stuck role unfinished in
    let same = c.as_slice-history.ensures ∙ item_history hs role c.index-histories-role.result within c.index-histories-role.is in
    let (e, at) = next_event x hs cs r.admitted r.histories r.sent r.count r.stuck role unfinished in
    let is = c.sender_of-role.ensures e (ap (λ (es : List Event). slice_get es (cursor_at cs role)) same ∙ at) in
    let waits = waits_for x hs cs r.admitted r.histories r.sent r.count r.stuck role sender e at is in
    let other = subst (All (λ (p : Point). p.role ≢ role)) c.as_slice.ensures c.in_default.ensures in
    rw c.in_ok-push.ensures.ok (path_more x hs cs r.admitted r.histories r.sent r.count r.stuck c.path.path role sender c.path.invariant other waits)
