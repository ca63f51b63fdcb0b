-- What has been counted of the stores.
use Rattle.std.proofs.Common.{◌*◌, ◌≤◌, length, take}
use Rattle.report.specs.WorldCounts.{no_count}
use Rattle.report.specs.inner.Counts.{acts_of_all}
use Rattle.report.specs.inner.Totals.{GrowsBy}
use Rattle.report.proofs.world_totals.count_all.Given as goal

-- the events of the roles so far are counted, and each role has fewer than 2 ^ 32
abbrev pub invariant-loop-role : goal.invariant-loop-role
invariant-loop-role l = record {
  counted : GrowsBy (acts_of_all (take l.role l.world.desks)) no_count l.total;
  few : length (acts_of_all (take l.role l.world.desks)) ≤ l.role * 4294967295;
}
