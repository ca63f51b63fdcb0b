-- The path so far, and how many roles may still come.
use Rattle.std.proofs.Common.{◌-◌, length}
use Rattle.history_audit.proofs.CycleLemmas.{IsPath}
use Rattle.history_audit.proofs.cycle.ring_from.Given as goal

abbrev pub invariant-path : goal.invariant-path
invariant-path l = IsPath l.x l.histories l.cursors l.path l.role

abbrev pub decreases-path : goal.decreases-path
decreases-path l = length l.histories - length l.path
