-- What is known stays right.
use Rattle.std.proofs.Common.{◌≡◌, ◌≤◌, length}
use Rattle.message_fates.specs.inner.Known.{AreKnown}
use Rattle.message_fates.proofs.known.play_to_each.Given as goal

-- the fates so far are right, and as many, with one for the target
abbrev pub invariant-from_the_last : goal.invariant-from_the_last
invariant-from_the_last l = AreKnown l.protocol l.known × (length l.known ≡ length l.fn.known) × (l.target ≤ length l.known)

abbrev pub decreases-from_the_last : goal.decreases-from_the_last
decreases-from_the_last l = l.target
