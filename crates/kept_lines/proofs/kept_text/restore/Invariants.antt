-- What the loop over the lines keeps, and why it ends.
use Rattle.std.proofs.Common.{length}
use Rattle.kept_lines.specs.inner.Coming.{RestoresUpTo}
use Rattle.kept_lines.proofs.kept_text.restore.Given as goal

-- the lines so far are kept
abbrev pub invariant-lines : goal.invariant-lines
invariant-lines g l = RestoresUpTo g.A.Responder.answers l.fn.responder l.text l.rest l.current l.count

-- the bytes that are left
abbrev pub decreases-lines : goal.decreases-lines
decreases-lines g l = length l.rest
