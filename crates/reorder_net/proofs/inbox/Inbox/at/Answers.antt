-- The envelope in the slot is held at the index.
use Rattle.std.proofs.Common.{◌≡◌, ◌<◌, length, subst, sym}
use Rattle.std.specs.Prelude.{Some, slice_get}
use Rattle.reorder_net.specs.inner.Slots.{held}
use Rattle.reorder_net.proofs.InboxLemmas.{copies_at, held_at, index_counted}
use Rattle.reorder_net.proofs.inbox.Inbox.at.Goals as goal

pub slot_of-slot-requires-clause-within : goal.slot_of-slot-requires-clause-within
slot_of-slot-requires-clause-within c =
    rw c.deref.ensures.value (index_counted c.self.inside.slots.items c.self.inside.marks.items c.args.i c.self.invariant.0.marks_are (subst (λ inbox. c.args.i < length inbox.envelopes) (sym c.self.view_is) c.requires))

pub returns-clause-item : goal.returns-clause-item
returns-clause-item c =
    let slots = c.self.inside.slots.items in
    let within : c.args.i < length (held slots) = subst (λ inbox. c.args.i < length inbox.envelopes) (sym c.self.view_is) c.requires in
    let is = copies_at slots c.self.inside.marks.items c.args.i c.slot_of-slot.result c.self.invariant.0.marks_are (rw c.deref.ensures.value at c.slot_of-slot.ensures) in
    subst (λ inbox. slice_get inbox.envelopes c.args.i ≡ Some c.index.result.now) c.self.view_is (held_at slots c.args.i c.slot_of-slot.result c.index.result.now is c.index.ensures within)
