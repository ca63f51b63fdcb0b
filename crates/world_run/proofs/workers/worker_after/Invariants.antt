-- The worker is the role's and the thread's.
use Rattle.std.proofs.Common.{◌≡◌}
use Rattle.world_run.proofs.workers.worker_after.Given as goal

abbrev pub invariant-loop-pass : goal.invariant-loop-pass
invariant-loop-pass g l = (l.worker.role ≡ l.role) × (l.worker.thread ≡ l.thread)
