-- What the loop over a piece keeps, and why it ends.
use Rattle.std.proofs.Common.{length}
use Rattle.live_role.specs.inner.Opening.{TakesUpTo}
use Rattle.live_role.proofs.opening.Opening.take.Given as goal

-- the piece was taken up to the rest
abbrev pub invariant-lines : goal.invariant-lines
invariant-lines l = TakesUpTo l.fn.self l.piece l.rest l.self

-- the bytes that are left
abbrev pub decreases-lines : goal.decreases-lines
decreases-lines l = length l.rest
