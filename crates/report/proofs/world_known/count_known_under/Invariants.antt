-- What has been counted of the parameters.
use Rattle.std.proofs.Common.{List, ◌≤◌}
use Rattle.bspl_types.specs.declared.event.Event.{Event}
use Rattle.report.specs.inner.Totals.{KnowsFirst}
use Rattle.report.specs.WorldRows.{IsRunOfWorld}
use Rattle.report.proofs.world_known.count_known_under.Given as goal

-- the known parameters so far are counted
abbrev pub invariant-loop-param : goal.invariant-loop-param
invariant-loop-param l = record {
  counted : (run : List Event) → IsRunOfWorld l.x l.world.desks run → KnowsFirst l.x run l.key l.param l.known;
  few : l.known ≤ l.param;
}
