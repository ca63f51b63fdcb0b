-- What has been counted of the stores.
use Rattle.std.proofs.Common.{◌*◌, ◌≤◌, length, take}
use Rattle.report.specs.inner.Counts.{GrowBy, acts_of_all, no_counts}
use Rattle.report.proofs.world_counts.message_counts.Given as goal

-- the events of the roles so far are counted, and each role has fewer than 2 ^ 32
abbrev pub invariant-loop-role : goal.invariant-loop-role
invariant-loop-role l = record {
  counted : GrowBy (acts_of_all (take l.role l.world.desks)) no_counts l.counts;
  few : length (acts_of_all (take l.role l.world.desks)) ≤ l.role * 4294967295;
}
