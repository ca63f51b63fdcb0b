-- What the walk along the entries keeps.
use Rattle.std.proofs.Common.{◌≡◌, ◌+◌, ◌++◌, length}
use Rattle.refutation_log.specs.Entries.{entries, steps_of}
use Rattle.log_checker.specs.inner.Marks.{IsClear}
use Rattle.log_checker.proofs.RunningLog.{HasRun}
use Rattle.log_checker.proofs.log_run.run_log.Given as goal

-- the entries that were passed led to the table, and nothing is marked
abbrev pub invariant-loop-entry : goal.invariant-loop-entry
invariant-loop-entry l = record {
  run : HasRun l.fn.formula (entries l.log) l.entries l.table;
  counted : length l.table.derived + length (steps_of l.entries) ≡ length l.log.steps;
  clear : IsClear l.marks (l.table.formula ++ l.table.derived);
}

-- the entries that are left
abbrev pub decreases-loop-entry : goal.decreases-loop-entry
decreases-loop-entry l = length l.entries
