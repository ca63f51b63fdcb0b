-- The receipts so far are of what was sent.
use Rattle.std.proofs.Common.{◌≡◌, ℕ, ◌<◌, Some}
use Rattle.std.specs.Prelude.{slice_get}
use Rattle.bspl_types.specs.declared.event.Event.{Event}
use Rattle.history_audit.specs.inner.Waits.{IsSent}
use Rattle.history_audit.proofs.bad_place.first_unsent.Given as goal

abbrev pub invariant-loop-position : goal.invariant-loop-position
invariant-loop-position l = (k : ℕ) (e : Event) → k < l.position → slice_get l.history k ≡ Some e → IsSent l.x l.histories e
