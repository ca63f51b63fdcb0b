-- The keys before the index are held.
use Rattle.std.proofs.Common.{◌≡◌, take}
use Rattle.world_run.proofs.opened_desks.hold_keys.Given as goal

abbrev pub invariant-loop-index : goal.invariant-loop-index
invariant-loop-index l = l.store ≡ record l.fn.store { keys = take l.index l.job.script.keys }
