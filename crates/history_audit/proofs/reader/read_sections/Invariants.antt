-- What has been read of the lines.
use Rattle.std.proofs.Common.{length}
use Rattle.history_audit.proofs.ReadingLemmas.{SectionsRead}
use Rattle.history_audit.proofs.reader.read_sections.Given as goal

abbrev pub invariant-lines : goal.invariant-lines
invariant-lines l = SectionsRead l.x l.text l.rest l.sections l.number

-- the bytes that are left
abbrev pub decreases-lines : goal.decreases-lines
decreases-lines l = length l.rest
