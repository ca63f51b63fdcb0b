-- What has been counted of the keys.
use Rattle.std.proofs.Common.{List, ◌≤◌, ◌*◌, take}
use Rattle.bspl_types.specs.declared.event.Event.{Event}
use Rattle.report.specs.inner.Totals.{KnowsUnder}
use Rattle.report.specs.WorldRows.{IsRunOfWorld}
use Rattle.report.proofs.world_known.count_known.Given as goal

-- what is known under the keys so far is counted
abbrev pub invariant-loop-index : goal.invariant-loop-index
invariant-loop-index l = record {
  counted : (run : List Event) → IsRunOfWorld l.x l.world.desks run → KnowsUnder l.x run (take l.index l.script.keys) l.known;
  few : l.known ≤ l.index * 64;
}
