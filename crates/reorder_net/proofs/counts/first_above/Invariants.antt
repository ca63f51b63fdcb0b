-- The counts before the index and what is left are as many.
use Rattle.std.proofs.Common.{◌≡◌, ◌+◌, ◌-◌, ◌<◌, length, drop, take}
use Rattle.std.specs.List.{sum}
use Rattle.reorder_net.proofs.counts.first_above.Given as goal

abbrev pub invariant-loop-index : goal.invariant-loop-index
invariant-loop-index l = record {
  within : l.index < length l.counts;
  before : sum (take l.from l.counts) + l.many ≡ sum (take l.index l.counts) + l.left;
  some : l.left < sum (drop l.index l.counts);
}

abbrev pub decreases-loop-index : goal.decreases-loop-index
decreases-loop-index l = length l.counts - l.index
