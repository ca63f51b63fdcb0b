-- What has been read of the lines.
use Rattle.std.proofs.Common.{length}
use Rattle.refutation_log.specs.Entries.{entries}
use Rattle.refutation_log.proofs.FirstBad.{EntriesRead}
use Rattle.refutation_log.proofs.reader.read_entries.Given as goal

-- the lines so far are those of the log's entries
abbrev pub invariant-loop-after : goal.invariant-loop-after
invariant-loop-after l = EntriesRead l.version l.text l.rest (entries l.log) l.number

-- the bytes that are left
abbrev pub decreases-loop-after : goal.decreases-loop-after
decreases-loop-after l = length l.rest
