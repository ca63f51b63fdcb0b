-- The waits are as many as the events, and the one of the next event tells whether it may come.
use Rattle.std.proofs.Common.{◌∙◌, ap, arith, length, subst, sym}
use Rattle.std.proofs.lemmas.Option.{get_or_from_slice_get}
use Rattle.list_base.proofs.Mapped.{as_long}
use Rattle.history_audit.specs.inner.Merging.{cursor_at}
use Rattle.history_audit.specs.inner.Waits.{AreWaits, IsWait}
use Rattle.history_audit.specs.Histories.{events_at}
use Rattle.history_audit.proofs.PlaceLemmas.{event_at, fits_at, item_history}
use Rattle.history_audit.proofs.WaitLemmas.{wait_in, waits_at}
use Rattle.history_audit.proofs.MergeLemmas.{ready_or_stuck}
use Rattle.history_audit.proofs.merged_run.is_ready.Goals as goal

pub bounds-waits-role : goal.bounds-waits-role
bounds-waits-role c =
    let long = as_long (AreWaits c.args.x.now c.args.histories.now) c.args.histories.now c.args.waits.now c.requires.waits in
    omega (arith, long, c.requires.within)

pub at-requires : goal.at-requires
at-requires c =
    let x = c.args.x.now in
    let hs = c.args.histories.now in
    let role = c.args.role in
    let w = c.index-waits-role.result in
    let have = subst (AreWaits x hs (events_at hs role)) (sym c.index-waits-role.is) (waits_at x hs c.args.waits.now role w c.requires.waits c.requires.within) in
    let long = as_long (IsWait x hs) (events_at hs role) w have in
    let same = c.as_slice-history.ensures ∙ item_history hs role c.index-histories-role.result c.requires.within c.index-histories-role.is in
    omega (arith, long, ap length same, c.if-index-history.false)

pub may_come-requires-clause-fits : goal.may_come-requires-clause-fits
may_come-requires-clause-fits c =
    let hs = c.args.histories.now in
    let role = c.args.role in
    let same = c.as_slice-history.ensures ∙ item_history hs role c.index-histories-role.result c.requires.within c.index-histories-role.is in
    let e = c.index-history-index.result in
    let k = cursor_at c.args.cursors.now role in
    fits_at c.args.x.now hs role k e c.requires.histories (event_at hs role k c.as_slice-history.result.now e same c.if-index-history.false c.index-history-index.is)

pub returns : goal.returns
returns c =
    let x = c.args.x.now in
    let hs = c.args.histories.now in
    let role = c.args.role in
    let w = c.index-waits-role.result in
    let have = subst (AreWaits x hs (events_at hs role)) (sym c.index-waits-role.is) (waits_at x hs c.args.waits.now role w c.requires.waits c.requires.within) in
    let same = c.as_slice-history.ensures ∙ item_history hs role c.index-histories-role.result c.requires.within c.index-histories-role.is in
    let e = c.index-history-index.result in
    let k = cursor_at c.args.cursors.now role in
    let at = event_at hs role k c.as_slice-history.result.now e same c.if-index-history.false c.index-history-index.is in
    let wait = subst (IsWait x hs e) (get_or_from_slice_get w k c.at.result.now 0 c.at.ensures) (wait_in x hs (events_at hs role) w k e 0 have at) in
    ready_or_stuck x hs c.args.cursors.now role e c.may_come.result at (c.may_come.ensures hs wait c.requires.merged)
