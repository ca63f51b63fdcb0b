-- The desks before the index do not know the parameter.
use Rattle.std.proofs.Common.{All, take}
use Rattle.world_run.specs.inner.Unknown.{IsUnknownAt}
use Rattle.world_run.proofs.table_value.table.Given as goal

abbrev pub invariant-loop-desk : goal.invariant-loop-desk
invariant-loop-desk l = All (IsUnknownAt l.key l.param) (take l.desk-index l.desk-items)
