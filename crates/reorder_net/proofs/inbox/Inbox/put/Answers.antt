-- The envelope has the next slot, and its block and group count one more.
use Rattle.std.proofs.Common.{◌≡◌, ◌<◌, length, sym, subst, arith}
use Rattle.reorder_net.proofs.InboxLemmas.{tallied_more}
use Rattle.reorder_net.proofs.inbox.Inbox.put.Goals as goal

pub invariant_of-self : goal.invariant_of-self
invariant_of-self c =
    let slots = c.self.inside.slots.items in
    let number : c.len-block.result ≡ length slots = search in
    let some : 0 < c.args.envelope.copies = omega (arith, c.if-envelope-eq0.false) in
    let room : 0 < c.self.inside.spare = subst (λ inbox. 0 < inbox.spare) (sym c.self.view_is) c.in_ok-make_room.ensures.ok in
    let are = tallied_more slots c.self.inside.marks.items c.self.inside.blocks.items c.self.inside.groups.items c.self.inside.all c.len-block.result c.args.envelope number some c.self.invariant.0 in (
      rw (c.push_reserved.ensures.items, c.push_reserved-2.ensures.items, c.raise.ensures.items, c.raise-2.ensures.items) are,
      record {
        slot_room = omega (arith, c.self.invariant.1.slot_room, c.push_reserved.ensures.len, c.push_reserved.ensures.capacity, room);
        mark_room = omega (arith, c.self.invariant.1.mark_room, c.push_reserved.ensures.len, c.push_reserved-2.ensures.capacity, room);
        block_room = omega (arith, c.self.invariant.1.block_room, c.push_reserved.ensures.len, c.raise.ensures.capacity, room);
        group_room = omega (arith, c.self.invariant.1.group_room, c.push_reserved.ensures.len, c.raise-2.ensures.capacity, room);
      },
    )
