-- The roles so far are stuck.
use Rattle.std.proofs.Common.{ℕ, ◌<◌}
use Rattle.history_audit.specs.inner.Merging.{IsStuck}
use Rattle.history_audit.proofs.merged_run.ready_role.Given as goal

abbrev pub invariant-loop-role : goal.invariant-loop-role
invariant-loop-role l = (other : ℕ) → other < l.role → IsStuck l.x l.histories l.cursors other
