-- What is merged, and how much is left.
use Rattle.history_audit.specs.inner.Merging.{IsMerging}
use Rattle.history_audit.proofs.MergeLemmas.{events_left}
use Rattle.history_audit.proofs.merged_run.merge.Given as goal

abbrev pub invariant-loop-role : goal.invariant-loop-role
invariant-loop-role l = IsMerging l.x l.histories l.cursors l.run

abbrev pub decreases-loop-role : goal.decreases-loop-role
decreases-loop-role l = events_left l.histories l.cursors
