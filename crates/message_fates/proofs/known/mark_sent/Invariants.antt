-- What is known stays right.
use Rattle.std.proofs.Common.{◌≡◌, length}
use Rattle.bspl_types.specs.declared.expanded.Expanded.{Expanded}
use Rattle.enactment_model.specs.Legal.{IsLegalRun}
use Rattle.message_fates.specs.inner.Known.{AreKnown}
use Rattle.message_fates.proofs.known.mark_sent.Given as goal

-- the fates so far are right if the run is legal, and as many
abbrev pub invariant-marked : goal.invariant-marked
invariant-marked l = ((x : Expanded) → IsLegalRun x l.run → AreKnown x l.fn.known → AreKnown x l.known) × (length l.known ≡ length l.fn.known)
