-- The envelopes that are held before the slot and those that are left are as many.
use Rattle.std.proofs.Common.{◌≡◌, ◌+◌, ◌-◌, ◌<◌, length, drop, take}
use Rattle.std.specs.List.{count_by}
use Rattle.reorder_net.specs.inner.Slots.{is_held}
use Rattle.reorder_net.proofs.counts.slot_after.Given as goal

abbrev pub invariant-loop-left : goal.invariant-loop-left
invariant-loop-left l = record {
  within : l.slot < length l.marks;
  before : count_by is_held (take l.from l.marks) + l.many ≡ count_by is_held (take l.slot l.marks) + l.left;
  some : l.left < count_by is_held (drop l.slot l.marks);
}

abbrev pub decreases-loop-left : goal.decreases-loop-left
decreases-loop-left l = length l.marks - l.slot
