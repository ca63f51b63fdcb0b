-- What the loop has read.
use Rattle.std.proofs.Common.{◌≡◌, ◌≤◌, ◌++◌, length}
use Rattle.bspl_types.specs.inner.Spelling.{spelled_bytes}
use Rattle.bspl_types.proofs.field.read_text.Given as goal

-- the spellings of the bytes so far, of which there are at most 32
abbrev pub invariant-bytes : goal.invariant-bytes
invariant-bytes l = (l.field ≡ spelled_bytes l.text ++ l.rest) × (length l.text ≤ 32)

-- what is left to read
abbrev pub decreases-bytes : goal.decreases-bytes
decreases-bytes l = length l.rest
