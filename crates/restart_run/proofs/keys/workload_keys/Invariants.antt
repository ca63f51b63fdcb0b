-- The keys before the index are taken.
use Rattle.std.proofs.Common.{◌≡◌, take}
use Rattle.restart_run.proofs.keys.workload_keys.Given as goal

abbrev pub invariant-loop-index : goal.invariant-loop-index
invariant-loop-index l = l.keys ≡ take l.index l.job.script.keys
