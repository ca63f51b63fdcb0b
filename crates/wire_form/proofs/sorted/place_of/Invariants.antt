-- Which names come before.
use Rattle.std.proofs.Common.{◌-◌, ◌≤◌, length}
use Rattle.wire_form.proofs.SortedLemmas.{IsPast}
use Rattle.wire_form.proofs.sorted.place_of.Given as goal

-- those so far do
abbrev pub invariant-loop-index : goal.invariant-loop-index
invariant-loop-index g l = record {
  within : l.index ≤ length l.sorted;
  past : IsPast g.T.Member.name g.T.Member.content l.sorted l.name l.index;
}

-- those that are left
abbrev pub decreases-loop-index : goal.decreases-loop-index
decreases-loop-index g l = length l.sorted - l.index
