-- No point so far is of the role.
use Rattle.std.proofs.Common.{◌≢◌, ℕ, ◌<◌, get_or}
use Rattle.history_audit.specs.declared.audit_no.Point.{Point}
use Rattle.history_audit.proofs.cycle.index_of_role.Given as goal

abbrev pub invariant-loop-index : goal.invariant-loop-index
invariant-loop-index l = (k : ℕ) (d : Point) → k < l.index → (get_or l.points k d).role ≢ l.role
