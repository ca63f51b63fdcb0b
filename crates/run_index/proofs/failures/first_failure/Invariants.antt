-- The least of the first failures under the keys so far.
use Rattle.run_index.specs.FirstOfKey.{HasKeyBefore}
use Rattle.run_index.specs.inner.Failures.{IsFirstFailure}
use Rattle.run_index.proofs.failures.first_failure.Given as goal

abbrev pub invariant-loop-start : goal.invariant-loop-start
invariant-loop-start l = IsFirstFailure l.x l.demand l.index (HasKeyBefore l.index l.start) l.least
