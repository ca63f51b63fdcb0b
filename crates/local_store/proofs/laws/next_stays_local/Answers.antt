-- What may follow and agrees leaves the history local.
use Rattle.std.proofs.Common.{ℕ, ◌∙◌, ap}
use Rattle.bspl_types.specs.declared.event.Event.TheVariants.{Emit, Receive}
use Rattle.bspl_types.specs.Expansion.{message_of}
use Rattle.stamped_history.specs.declared.entry.Entry.{Entry}
use Rattle.local_store.specs.inner.Kept.{IsSound}
use Rattle.local_store.proofs.EmissionLemmas.{emission_agrees, emission_follows}
use Rattle.local_store.proofs.LocalLemmas.{local_more}
use Rattle.local_store.proofs.laws.next_stays_local.Goals as goal

pub returns-clause-emission : goal.returns-clause-emission
returns-clause-emission c = λ s m message key outs kept can own e.
    let sound : IsSound s = record { admitted = kept.admitted; held = kept.held; local = kept.local } in
    let entry : Entry = record { event = Emit m.instance; stamp = m.stamp; number = m.number } in
    local_more c.answers_once.ensures.values s.protocol s.role s.entries entry kept.admitted kept.local e.fits
    (ap (λ (n : ℕ). (message_of s.protocol n).sender) e.message_is ∙ own)
    (emission_follows s message key outs m can e) (emission_agrees s message key outs m sound can e)

pub returns-clause-receipt : goal.returns-clause-receipt
returns-clause-receipt c = λ s m stamp kept fits own new agree later.
    let entry : Entry = record { event = Receive m.instance; stamp = stamp; number = m.number } in
    local_more c.answers_once.ensures.values s.protocol s.role s.entries entry kept.admitted kept.local fits own (record { once = new; later = later }) agree
