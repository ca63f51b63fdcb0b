-- A difference, a repeat and what is fresh are foreseen.
use Rattle.std.proofs.Common.{refl, sym, subst}
use Rattle.std.proofs.lemmas.Bool.{true≢false}
use Rattle.local_store.specs.State.{acts_of}
use Rattle.local_store.specs.inner.Kept.{HasEvent}
use Rattle.local_store.proofs.NextLemmas.{differs_foreseen}
use Rattle.local_store.proofs.ReceiptLemmas.{has_received, repeats}
use Rattle.local_store.proofs.store.Store.foreseen.Goals as goal

pub returns-in-Some : goal.returns-in-Some
returns-in-Some c = differs_foreseen c.args.self.now c.args.m.now c.held_row-row.ensures.sound c.in-Some.differs c.in-Some.ensures

pub returns-then-has_event : goal.returns-then-has_event
returns-then-has_event c =
    let s = c.args.self.now in
    let i = c.args.m.now.instance in
    repeats s i c.held_row-row.ensures.sound c.requires.fits c.requires.own c.in_default.ensures
    (subst (λ key. HasEvent (acts_of s) key i.message) c.held_row-row.ensures.key (c.if-has_event.ensures.0 refl))

pub returns : goal.returns
returns c = (
  λ among. true≢false (sym (c.if-has_event.ensures.1 (subst (λ key. HasEvent (acts_of c.args.self.now) key c.args.m.now.instance.message) (sym c.held_row-row.ensures.key) (has_received c.args.self.now c.args.m.now.instance among)))),
  c.in_default.ensures,
)
