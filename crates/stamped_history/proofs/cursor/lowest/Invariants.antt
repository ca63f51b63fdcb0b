-- What the loop keeps: this is the lowest entry of the roles before the index.
use Rattle.std.proofs.Common.{take}
use Rattle.stamped_history.specs.inner.Cursors.{IsLowestOf}
use Rattle.stamped_history.proofs.cursor.lowest.Given as goal

abbrev pub invariant-loop-role : goal.invariant-loop-role
invariant-loop-role l = IsLowestOf (take l.role l.cursors) l.lowest
