-- The histories of the roles so far have no bad place.
use Rattle.std.proofs.Common.{ℕ, ◌<◌}
use Rattle.history_audit.specs.BadPlace.{HasNoBadPlace}
use Rattle.history_audit.proofs.bad_place.first_bad_place.Given as goal

abbrev pub invariant-loop-role : goal.invariant-loop-role
invariant-loop-role l = (other : ℕ) → other < l.role → HasNoBadPlace l.x l.histories other
