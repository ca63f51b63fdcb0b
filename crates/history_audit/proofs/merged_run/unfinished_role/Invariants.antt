-- The histories so far are merged to their ends.
use Rattle.std.proofs.Common.{ℕ, ◌<◌}
use Rattle.history_audit.specs.inner.Merging.{IsUnfinished}
use Rattle.history_audit.proofs.merged_run.unfinished_role.Given as goal

abbrev pub invariant-loop-role : goal.invariant-loop-role
invariant-loop-role l = (other : ℕ) → other < l.role → ¬ IsUnfinished l.histories l.cursors other
