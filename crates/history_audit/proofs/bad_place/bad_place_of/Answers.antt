-- The role's index is that of its history.
use Rattle.std.proofs.Common.{◌≡◌, ◌∙◌, ◌+◌, ◌<◌, List, ap, arith, length, refl, subst, sym, take}
use Rattle.std.proofs.lemmas.List.Elements.{All-take}
use Rattle.bspl_types.specs.declared.event.Event.{Event}
use Rattle.bspl_types.specs.History.{instance_of, IsRun, role_of}
use Rattle.bspl_types.specs.Instance.{Fits}
use Rattle.history_audit.specs.BadPlace.{IsWhy, MayHappen}
use Rattle.history_audit.specs.inner.Places.{AreOwn}
use Rattle.history_audit.proofs.PlaceLemmas.{event_at, fits_at, index_history, own_at}
use Rattle.history_audit.proofs.WaitLemmas.{bad_of, none_bad_of}
use Rattle.history_audit.proofs.bad_place.bad_place_of.Goals as goal

pub first_bad-requires-clause-fit : goal.first_bad-requires-clause-fit
first_bad-requires-clause-fit c =
    let is = index_history c.args.x.now c.args.indices.now c.args.histories.now c.args.role c.index-indices-role.result c.requires.indexed c.requires.histories c.requires.known c.index-indices-role.is in
    subst (IsRun c.args.x.now) (sym is) (c.requires.histories.fit c.args.role)

pub first_bad-requires-clause-own : goal.first_bad-requires-clause-own
first_bad-requires-clause-own c =
    let is = index_history c.args.x.now c.args.indices.now c.args.histories.now c.args.role c.index-indices-role.result c.requires.indexed c.requires.histories c.requires.known c.index-indices-role.is in
    subst (AreOwn c.args.x.now c.args.role) (sym is) (c.requires.histories.own c.args.role)

pub returns-then-position-history : goal.returns-then-position-history
returns-then-position-history c =
    let is = index_history c.args.x.now c.args.indices.now c.args.histories.now c.args.role c.index-indices-role.result c.requires.indexed c.requires.histories c.requires.known c.index-indices-role.is in
    none_bad_of c.args.x.now c.args.histories.now c.args.role c.index-indices-role.result c.in_ok-position.position is c.in_ok-position.ensures (omega (arith, c.if-position-history.true, ap length c.events-history.ensures))

pub reason-requires-clause-run : goal.reason-requires-clause-run
reason-requires-clause-run c =
    let is = index_history c.args.x.now c.args.indices.now c.args.histories.now c.args.role c.index-indices-role.result c.requires.indexed c.requires.histories c.requires.known c.index-indices-role.is in
    All-take (λ e. Fits c.args.x.now (instance_of e)) c.in_ok-position.position c.events-history.result.now (subst (IsRun c.args.x.now) (sym (c.events-history.ensures ∙ is)) (c.requires.histories.fit c.args.role))

pub reason-requires-clause-fits : goal.reason-requires-clause-fits
reason-requires-clause-fits c =
    let is = index_history c.args.x.now c.args.indices.now c.args.histories.now c.args.role c.index-indices-role.result c.requires.indexed c.requires.histories c.requires.known c.index-indices-role.is in
    let first = c.in_ok-position.ensures in
    let n = c.in_ok-position.position in
    let e = c.index-history-position.result in
    let before : n < length c.events-history.result.now = omega (arith, first.within, c.if-position-history.false, ap length c.events-history.ensures) in
    fits_at c.args.x.now c.args.histories.now c.args.role n e c.requires.histories (event_at c.args.histories.now c.args.role n c.events-history.result.now e (c.events-history.ensures ∙ is) before c.index-history-position.is)

pub reason-requires-clause-own : goal.reason-requires-clause-own
reason-requires-clause-own c =
    let is = index_history c.args.x.now c.args.indices.now c.args.histories.now c.args.role c.index-indices-role.result c.requires.indexed c.requires.histories c.requires.known c.index-indices-role.is in
    All-take (λ e. role_of c.args.x.now e ≡ c.args.role) c.in_ok-position.position c.events-history.result.now (subst (AreOwn c.args.x.now c.args.role) (sym (c.events-history.ensures ∙ is)) (c.requires.histories.own c.args.role))

pub reason-requires-clause-own_event : goal.reason-requires-clause-own_event
reason-requires-clause-own_event c =
    let is = index_history c.args.x.now c.args.indices.now c.args.histories.now c.args.role c.index-indices-role.result c.requires.indexed c.requires.histories c.requires.known c.index-indices-role.is in
    let first = c.in_ok-position.ensures in
    let n = c.in_ok-position.position in
    let e = c.index-history-position.result in
    let before : n < length c.events-history.result.now = omega (arith, first.within, c.if-position-history.false, ap length c.events-history.ensures) in
    own_at c.args.x.now c.args.histories.now c.args.role n e c.requires.histories (event_at c.args.histories.now c.args.role n c.events-history.result.now e (c.events-history.ensures ∙ is) before c.index-history-position.is)

pub returns : goal.returns
returns c =
    let x = c.args.x.now in
    let hs = c.args.histories.now in
    let role = c.args.role in
    let is = index_history x c.args.indices.now hs role c.index-indices-role.result c.requires.indexed c.requires.histories c.requires.known c.index-indices-role.is in
    let first = c.in_ok-position.ensures in
    let n = c.in_ok-position.position in
    let e = c.index-history-position.result in
    let before : n < length c.events-history.result.now = omega (arith, first.within, c.if-position-history.false, ap length c.events-history.ensures) in
    let at = event_at hs role n c.events-history.result.now e (c.events-history.ensures ∙ is) before c.index-history-position.is in
    let reason = subst (λ (events : List Event). (others : List (List Event)) → ¬ MayHappen x others (take n events) e → IsWhy x (take n events) e c.reason.result) c.events-history.ensures c.reason.ensures in
    bad_of x hs role c.index-indices-role.result n (n + 1) e c.reason.result is first at reason refl
