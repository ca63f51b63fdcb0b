-- The body is that of an entry, whose key is not held, or with which the history is not local.
use Rattle.std.proofs.Common.{sym, ◌∙◌, subst}
use Rattle.std.specs.List.{Contains}
use Rattle.std.proofs.lemmas.Bool.{false≢true}
use Rattle.bspl_types.specs.declared.event.Instance.{Instance}
use Rattle.durable_store.specs.inner.Begun.Ends.{not_local, other_key}
use Rattle.durable_store.proofs.BodyLemmas.{holds_read}
use Rattle.durable_store.proofs.places.next_of.Goals as goal

pub returns-then-not-holds : goal.returns-then-not-holds
returns-then-not-holds c = λ image place has.
    let s = c.args.store.now in
    let read = c.in_ok-entry.ensures in
    other_key c.in_ok-entry.entry
    (holds_read s.protocol c.admitted.result.now image place c.args.body.now c.in_ok-entry.entry c.admitted.ensures has read.0 read.1)
    (λ held. false≢true (sym c.if-not-holds.true ∙ c.holds.ensures.1 (subst (λ (i : Instance). Contains s.keys i.key) (sym c.instance.ensures) held)))

pub returns : goal.returns
returns c = λ image place has.
    let s = c.args.store.now in
    let read = c.in_ok-entry.ensures in
    not_local c.in_ok-entry.entry
    (holds_read s.protocol c.admitted.result.now image place c.args.body.now c.in_ok-entry.entry c.admitted.ensures has read.0 read.1)
    (λ local. false≢true (sym c.if-may_come.false ∙ c.may_come.ensures.1 local))
