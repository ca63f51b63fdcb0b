-- The first receipt of what is never emitted, or none.
use Rattle.std.proofs.Common.{◌∙◌, ap, arith, inl, inr, length, refl, subst, sym}
use Rattle.std.specs.Prelude.{slice_get}
use Rattle.std.proofs.lemmas.Bool.{cases_lt, iff_false}
use Rattle.std.proofs.lemmas.Option.{same_Some, slice_get_read, slice_get_within}
use Rattle.list_base.proofs.Mapped.{as_long}
use Rattle.history_audit.specs.inner.Waits.{IsSent, IsWait}
use Rattle.history_audit.proofs.WaitLemmas.{wait_in}
use Rattle.history_audit.proofs.bad_place.first_unsent.Goals as goal

pub bounds-waits-position : goal.bounds-waits-position
bounds-waits-position c =
    let long = as_long (IsWait c.args.x.now c.args.histories.now) c.args.history.now c.args.waits.now c.requires.waits in
    omega (arith, long, c.loop-position-test.true)

pub is_sent-requires-clause-wait : goal.is_sent-requires-clause-wait
is_sent-requires-clause-wait c =
    let x = c.args.x.now in
    let hs = c.args.histories.now in
    let e = c.index-history-position.result in
    let at = slice_get_read c.args.history.now _ c.loop-position.position e refl c.loop-position-test.true c.index-history-position.is in
    wait_in x hs c.args.history.now c.args.waits.now c.loop-position.position e 0 c.requires.waits at

pub returns-then-not-is_sent : goal.returns-then-not-is_sent
returns-then-not-is_sent c =
    let x = c.args.x.now in
    let hs = c.args.histories.now in
    let e = c.index-history-position.result in
    let at = slice_get_read c.args.history.now _ c.loop-position.position e refl c.loop-position-test.true c.index-history-position.is in
    record {
      within = omega (arith, c.loop-position-test.true);
      sent = c.loop-position.invariant;
      unsent = λ f there sent. iff_false c.is_sent.ensures c.if-not-is_sent.true (subst (IsSent x hs) (same_Some f e (sym there ∙ at)) sent);
    }

pub loop-position-preserved : goal.loop-position-preserved
loop-position-preserved c = λ k f before there.
    let x = c.args.x.now in
    let hs = c.args.histories.now in
    let position = c.loop-position.position in
    let e = c.index-history-position.result in
    let at = slice_get_read c.args.history.now _ position e refl c.loop-position-test.true c.index-history-position.is in
    elim (cases_lt k position) [
      | inl old ↦ c.loop-position.invariant k f old there
      | inr new ↦ subst (IsSent x hs) (same_Some e f (sym at ∙ ap (slice_get c.args.history.now) (omega (arith, before, new)) ∙ there)) (c.is_sent.ensures.0 c.if-not-is_sent.false)
    ]

pub returns : goal.returns
returns c =
    record {
      within = omega arith;
      sent = λ k f before there. c.loop-position.invariant k f (omega (arith, before, c.loop-position-test.false)) there;
      unsent = λ f there. absurd (omega (arith, slice_get_within c.args.history.now (length c.args.history.now) f there));
    }
