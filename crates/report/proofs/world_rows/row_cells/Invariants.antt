-- What has been looked up.
use Rattle.std.proofs.Common.{List}
use Rattle.bspl_types.specs.declared.event.Event.{Event}
use Rattle.report.specs.WorldRows.{IsRunOfWorld}
use Rattle.report.specs.WorldText.{AreFirstCells}
use Rattle.report.proofs.world_rows.row_cells.Given as goal

-- the cells so far are those of the first parameters
abbrev pub invariant-loop-param : goal.invariant-loop-param
invariant-loop-param l = (run : List Event) → IsRunOfWorld l.x l.world.desks run → AreFirstCells l.x run l.key l.param l.cells
