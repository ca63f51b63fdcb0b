-- A difference is answered, a repeat was received, and what is fresh may follow.
use Rattle.std.proofs.Common.{◌+◌, max, refl, sym, ap, subst, ◌∙◌, arith}
use Rattle.std.proofs.lemmas.Bool.{true≢false}
use Rattle.bspl_types.specs.declared.event.Event.TheVariants.{Receive}
use Rattle.local_store.specs.State.{acts_of, with_entry}
use Rattle.local_store.specs.inner.Kept.{HasEvent}
use Rattle.local_store.proofs.ReceiptLemmas.{differs_receipt, has_received, repeats}
use Rattle.local_store.proofs.store.Store.receive.Goals as goal

pub returns-in-Some : goal.returns-in-Some
returns-in-Some c = differs_receipt c.args.self.now c.args.m.now c.held_row-row.ensures.sound c.in-Some.differs c.in-Some.ensures

pub returns-then-has_event : goal.returns-then-has_event
returns-then-has_event c =
    let s = c.args.self.now in
    let i = c.args.m.now.instance in (
      repeats s i c.held_row-row.ensures.sound c.requires.fits c.requires.own c.in_default.ensures
          (subst (λ key. HasEvent (acts_of s) key i.message) c.held_row-row.ensures.key (c.if-has_event.ensures.0 refl)),
      refl,
    )

pub append-requires : goal.append-requires
append-requires c = record {
  key_is = c.held_row-row.ensures.row;
  fits = c.requires.fits;
  own = c.requires.own;
  follows = record {
    once = λ among. true≢false (sym (c.if-has_event.ensures.1 (subst (λ key. HasEvent (acts_of c.args.self.now) key c.args.m.now.instance.message) (sym c.held_row-row.ensures.key) (has_received c.args.self.now c.args.m.now.instance among))));
    later = omega (arith, c.max-stamp.ensures, c.clock.ensures);
  };
  agree = c.in_default.ensures;
  spare = c.requires.spare;
}

pub returns : goal.returns
returns c = (
  λ among. true≢false (sym (c.if-has_event.ensures.1 (subst (λ key. HasEvent (acts_of c.args.self.now) key c.args.m.now.instance.message) (sym c.held_row-row.ensures.key) (has_received c.args.self.now c.args.m.now.instance among)))),
  c.in_default.ensures,
  c.append.ensures ∙ ap (λ stamp. with_entry c.args.self.now (Receive c.args.m.now.instance) (stamp + 1) c.args.m.now.number) (c.max-stamp.ensures ∙ ap (λ clock. max clock c.args.m.now.stamp) c.clock.ensures),
)
