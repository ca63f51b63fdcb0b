-- What the loop over the messages has found.
use Rattle.std.proofs.Common.{ℕ, ◌<◌}
use Rattle.enactment_model.specs.inner.Rest.{IsAtRest}
use Rattle.run_index.proofs.rest.first_loose.Given as goal

-- the messages so far are at rest
abbrev pub invariant-loop-message : goal.invariant-loop-message
invariant-loop-message l = (m : ℕ) → m < l.message → IsAtRest l.x l.index l.key m
