-- What has been written of a log.
use Rattle.std.proofs.Common.{◌≡◌, ◌++◌, length}
use Rattle.std.specs.List.{flat_map}
use Rattle.refutation_log.specs.Entries.{entries}
use Rattle.refutation_log.specs.LogText.{entry_line}
use Rattle.refutation_log.proofs.writer.push_entries.Given as goal

-- the lines of the entries that are left are missing
abbrev pub invariant-loop-entry : goal.invariant-loop-entry
invariant-loop-entry l = l.text ++ flat_map entry_line l.entries ≡ l.fn.text ++ flat_map entry_line (entries l.log)

-- the entries that are left
abbrev pub decreases-loop-entry : goal.decreases-loop-entry
decreases-loop-entry l = length l.entries
