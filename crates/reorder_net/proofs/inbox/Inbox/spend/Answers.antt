-- The slot has one copy less; with the last its block and group count one less.
use Rattle.std.proofs.Common.{◌≡◌, ◌-◌, ◌/◌, ◌<◌, length, sym, ap, ◌∙◌, subst, refl, arith}
use Rattle.std.specs.Prelude.{Some, slice_get}
use Rattle.std.proofs.lemmas.List.{get_or-set_same}
use Rattle.bspl_types.specs.declared.envelope.Envelope.{Envelope}
use Rattle.reorder_net.specs.Inbox.{after_spending}
use Rattle.reorder_net.specs.inner.Slots.{held}
use Rattle.reorder_net.proofs.CountLemmas.{block_some}
use Rattle.reorder_net.proofs.InboxLemmas.{block_of, copies_at, group_of, index_counted, spent_last, spent_still, tallied_kept, tallied_less}
use Rattle.reorder_net.proofs.inbox.Inbox.spend.Goals as goal

pub slot_of-slot-requires-clause-within : goal.slot_of-slot-requires-clause-within
slot_of-slot-requires-clause-within c =
    rw c.deref.ensures.value (index_counted c.self.inside.slots.items c.self.inside.marks.items c.args.i c.self.invariant.0.marks_are (subst (λ inbox. c.args.i < length inbox.envelopes) (sym c.self.view_is) c.requires))

pub invariant_of-self : goal.invariant_of-self
invariant_of-self c =
    let slots = c.self.inside.slots.items in
    let s = c.slot_of-slot.result in
    let m : Envelope = c.index_mut.result.now in
    let less : Envelope = record m { copies = m.copies - 1 } in
    let marked = rw c.deref.ensures.value at c.slot_of-slot.ensures in
    let is = copies_at slots c.self.inside.marks.items c.args.i s c.self.invariant.0.marks_are marked in
    let some : 0 < less.copies = subst (λ x. 0 < x.copies) (c.index.ensures ∙ get_or-set_same slots s less c.index.result.now is.within) c.if-index-gt0.true in (
      tallied_kept slots c.self.inside.marks.items c.self.inside.blocks.items c.self.inside.groups.items c.self.inside.all c.args.i s less marked some c.self.invariant.0,
      c.self.invariant.1,
    )

pub returns-then-index-gt0-clause-list : goal.returns-then-index-gt0-clause-list
returns-then-index-gt0-clause-list c e there =
    let slots = c.self.inside.slots.items in
    let s = c.slot_of-slot.result in
    let m : Envelope = c.index_mut.result.now in
    let less : Envelope = record m { copies = m.copies - 1 } in
    let marked = rw c.deref.ensures.value at c.slot_of-slot.ensures in
    let is = copies_at slots c.self.inside.marks.items c.args.i s c.self.invariant.0.marks_are marked in
    let some : 0 < less.copies = subst (λ x. 0 < x.copies) (c.index.ensures ∙ get_or-set_same slots s less c.index.result.now is.within) c.if-index-gt0.true in
    let within : c.args.i < length (held slots) = subst (λ inbox. c.args.i < length inbox.envelopes) (sym c.self.view_is) c.requires in
    let at : slice_get (held slots) c.args.i ≡ Some e = subst (λ inbox. slice_get inbox.envelopes c.args.i ≡ Some e) (sym c.self.view_is) there in
    spent_still slots c.args.i s m less e is c.index_mut.ensures.value refl some within at
    ∙ ap (λ inbox. after_spending inbox.envelopes c.args.i e) c.self.view_is

pub lower-requires-clause-some : goal.lower-requires-clause-some
lower-requires-clause-some c =
    let slots = c.self.inside.slots.items in
    let s = c.slot_of-slot.result in
    let marked = rw c.deref.ensures.value at c.slot_of-slot.ensures in
    block_some 32 c.self.inside.marks.items c.self.inside.blocks.items (s / 32) s c.self.invariant.0.blocks_are (block_of s) marked.within marked.held

pub lower-requires-2-clause-some : goal.lower-requires-2-clause-some
lower-requires-2-clause-some c =
    let slots = c.self.inside.slots.items in
    let s = c.slot_of-slot.result in
    let marked = rw c.deref.ensures.value at c.slot_of-slot.ensures in
    block_some 1024 c.self.inside.marks.items c.self.inside.groups.items (s / 32 / 32) s c.self.invariant.0.groups_are (group_of s) marked.within marked.held

pub invariant_of-self-2 : goal.invariant_of-self-2
invariant_of-self-2 c =
    let slots = c.self.inside.slots.items in
    let s = c.slot_of-slot.result in
    let m : Envelope = c.index_mut.result.now in
    let less : Envelope = record m { copies = m.copies - 1 } in
    let marked = rw c.deref.ensures.value at c.slot_of-slot.ensures in
    let is = copies_at slots c.self.inside.marks.items c.args.i s c.self.invariant.0.marks_are marked in
    let none : less.copies ≡ 0 = ap (λ x. x.copies) (sym (c.index.ensures ∙ get_or-set_same slots s less c.index.result.now is.within)) ∙ omega (arith, c.if-index-gt0.false) in
    let are = tallied_less slots c.self.inside.marks.items c.self.inside.blocks.items c.self.inside.groups.items c.self.inside.all c.args.i s less marked none c.self.invariant.0 in (
      rw (c.lower.ensures.items, c.lower-2.ensures.items) are,
      record {
        slot_room = c.self.invariant.1.slot_room;
        mark_room = c.self.invariant.1.mark_room;
        block_room = omega (arith, c.self.invariant.1.block_room, c.lower.ensures.capacity);
        group_room = omega (arith, c.self.invariant.1.group_room, c.lower-2.ensures.capacity);
      },
    )

pub returns-clause-list : goal.returns-clause-list
returns-clause-list c e there =
    let slots = c.self.inside.slots.items in
    let s = c.slot_of-slot.result in
    let m : Envelope = c.index_mut.result.now in
    let less : Envelope = record m { copies = m.copies - 1 } in
    let marked = rw c.deref.ensures.value at c.slot_of-slot.ensures in
    let is = copies_at slots c.self.inside.marks.items c.args.i s c.self.invariant.0.marks_are marked in
    let none : less.copies ≡ 0 = ap (λ x. x.copies) (sym (c.index.ensures ∙ get_or-set_same slots s less c.index.result.now is.within)) ∙ omega (arith, c.if-index-gt0.false) in
    let within : c.args.i < length (held slots) = subst (λ inbox. c.args.i < length inbox.envelopes) (sym c.self.view_is) c.requires in
    let at : slice_get (held slots) c.args.i ≡ Some e = subst (λ inbox. slice_get inbox.envelopes c.args.i ≡ Some e) (sym c.self.view_is) there in
    c.free_slots.ensures.same
    ∙ spent_last slots c.args.i s m less e is c.index_mut.ensures.value refl none within at
    ∙ ap (λ inbox. after_spending inbox.envelopes c.args.i e) c.self.view_is
