-- So many zeros so far.
use Rattle.std.proofs.Common.{◌≡◌, replicate}
use Rattle.history_audit.proofs.merged_run.zeros.Given as goal

abbrev pub invariant-loop-place : goal.invariant-loop-place
invariant-loop-place l = l.list ≡ replicate l.place 0
