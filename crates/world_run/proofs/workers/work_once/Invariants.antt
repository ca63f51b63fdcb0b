-- The worker is the same thread of the same role.
use Rattle.adapter.specs.Worker.{IsSameThread}
use Rattle.world_run.proofs.workers.work_once.Given as goal

abbrev pub invariant-loop-index : goal.invariant-loop-index
invariant-loop-index g l = IsSameThread l.fn.worker l.worker
