-- What was not received before, and is stamped after the clock, may follow.
use Rattle.std.proofs.Common.{◌≡◌, ℕ, ◌<◌, List, [], refl, sym, subst}
use Rattle.std.proofs.lemmas.Bool.{false≢true, true≢false}
use Rattle.std.proofs.lemmas.Option.{get_or_from_slice_get}
use Rattle.bspl_types.specs.declared.value.Value.{Value}
use Rattle.local_store.specs.State.{acts_of, key_at}
use Rattle.local_store.specs.inner.Kept.{HasEvent, IsSound}
use Rattle.local_store.proofs.ReceiptLemmas.{has_received, repeats}
use Rattle.local_store.proofs.store.Store.receipt_follows.Goals as goal

pub returns-then-has_event : goal.returns-then-has_event
returns-then-has_event c =
    let s = c.args.self.now in
    let i = c.args.i.now in
    let sound : IsSound s = record { admitted = c.is_consistent.ensures.admitted; held = c.is_consistent.ensures.held; local = c.is_consistent.ensures.local } in
    let key : key_at s c.args.row ≡ i.key = get_or_from_slice_get s.keys c.args.row i.key [] c.requires.row in
    let has : HasEvent (acts_of s) i.key i.message = subst (λ (k : List Value). HasEvent (acts_of s) k i.message) key (c.if-has_event.ensures.0 refl) in (
      λ no. absurd (false≢true no),
      λ may. absurd (may.once (repeats s i sound c.requires.fits c.requires.own c.requires.agree has)),
    )

pub returns : goal.returns
returns c =
    let s = c.args.self.now in
    let i = c.args.i.now in
    let key : key_at s c.args.row ≡ i.key = get_or_from_slice_get s.keys c.args.row i.key [] c.requires.row in (
      λ later. record {
        once = λ among. true≢false (sym (c.if-has_event.ensures.1 (subst (λ (k : List Value). HasEvent (acts_of s) k i.message) (sym key) (has_received s i among))));
        later = subst (λ (n : ℕ). n < c.args.stamp) c.clock.ensures (c.is_later.ensures.0 later);
      },
      λ may. c.is_later.ensures.1 (subst (λ (n : ℕ). n < c.args.stamp) (sym c.clock.ensures) may.later),
    )
