-- What has been written of the rows.
use Rattle.std.proofs.Common.{List, take}
use Rattle.bspl_types.specs.declared.event.Event.{Event}
use Rattle.report.specs.WorldRows.{AppendsRows, IsRunOfWorld}
use Rattle.report.proofs.world_rows.push_rows.Given as goal

-- the rows of the workload numbers so far are written
abbrev pub invariant-loop-index : goal.invariant-loop-index
invariant-loop-index g l = (run : List Event) → IsRunOfWorld l.x l.world.desks run → AppendsRows (g.W.RowWriter.form l.writer) l.x run (take l.index l.script.keys) l.fn.text l.text
