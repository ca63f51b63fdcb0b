-- Each search is within its list, and goes on where the one before ended.
use Rattle.std.proofs.Common.{◌<◌, subst, sym, arith}
use Rattle.reorder_net.specs.inner.Counts.{IsAbove, IsHeldSlot}
use Rattle.reorder_net.proofs.CountLemmas.{all_before, next_blocks, next_slots, total}
use Rattle.reorder_net.proofs.inbox.slot_of.Goals as goal

pub first_above-group-requires : goal.first_above-group-requires
first_above-group-requires c = subst (λ n. c.args.i < n) (sym (total 1024 c.args.marks.now c.args.groups.now c.requires.groups)) c.requires.within

pub first_above-block-requires : goal.first_above-block-requires
first_above-block-requires c =
    next_blocks c.args.marks.now c.args.blocks.now c.args.groups.now c.args.i c.first_above-group.result.0 c.first_above-group.result.1 c.requires.blocks c.requires.groups c.requires.within (subst (λ n. IsAbove c.args.groups.now n c.first_above-group.result.0 c.first_above-group.result.1) (omega arith) c.first_above-group.ensures)

-- the block is found among all that come before the index
pub slot_after-requires : goal.slot_after-requires
slot_after-requires c =
    let marks = c.args.marks.now in
    let blocks = c.args.blocks.now in
    let block = c.first_above-block.result.0 in
    let left = c.first_above-block.result.1 in
    let same = all_before marks blocks c.args.groups.now c.args.i c.first_above-group.result.0 c.first_above-group.result.1 c.requires.blocks c.requires.groups (subst (λ n. IsAbove c.args.groups.now n c.first_above-group.result.0 c.first_above-group.result.1) (omega arith) c.first_above-group.ensures) in
    (next_slots marks blocks c.args.i block left c.requires.blocks c.requires.within (subst (λ n. IsAbove blocks n block left) same c.first_above-block.ensures)).0

pub returns : goal.returns
returns c =
    let marks = c.args.marks.now in
    let blocks = c.args.blocks.now in
    let block = c.first_above-block.result.0 in
    let left = c.first_above-block.result.1 in
    let same = all_before marks blocks c.args.groups.now c.args.i c.first_above-group.result.0 c.first_above-group.result.1 c.requires.blocks c.requires.groups (subst (λ n. IsAbove c.args.groups.now n c.first_above-group.result.0 c.first_above-group.result.1) (omega arith) c.first_above-group.ensures) in
    let next = next_slots marks blocks c.args.i block left c.requires.blocks c.requires.within (subst (λ n. IsAbove blocks n block left) same c.first_above-block.ensures) in
    subst (λ n. IsHeldSlot marks n c.slot_after.result) (sym next.1) c.slot_after.ensures
