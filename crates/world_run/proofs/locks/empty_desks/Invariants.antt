-- There is a desk for each role before the index.
use Rattle.std.proofs.Common.{◌≡◌, length}
use Rattle.world_run.proofs.locks.empty_desks.Given as goal

abbrev pub invariant-loop-role : goal.invariant-loop-role
invariant-loop-role l = length l.desks ≡ l.role
