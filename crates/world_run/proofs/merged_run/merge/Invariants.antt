-- The histories are those of the desks before the index.
use Rattle.std.proofs.Common.{◌≡◌, map, take}
use Rattle.world_run.specs.World.{histories_of}
use Rattle.world_run.proofs.merged_run.merge.Given as goal

abbrev pub invariant-loop-desk : goal.invariant-loop-desk
invariant-loop-desk l = map (λ h. h.desk.now.store.entries) l.histories ≡ histories_of (take l.desk-index l.desk-items)
