-- What is known stays right.
use Rattle.std.proofs.Common.{◌≡◌, length}
use Rattle.message_fates.specs.inner.Known.{AreKnown}
use Rattle.message_fates.proofs.known.mark_unreached.Given as goal

-- the fates so far are right, and as many
abbrev pub invariant-marked : goal.invariant-marked
invariant-marked l = AreKnown l.x l.known × (length l.known ≡ length l.fn.known)
