-- What the loop over the public parameters has found.
use Rattle.std.proofs.Common.{ℕ, ◌<◌}
use Rattle.enactment_model.specs.Liveness.{Bound, HasPublicValue}
use Rattle.enactment_model.proofs.boundness.unbound.Given as goal

-- those so far that have a value are bound
abbrev pub invariant-loop-param : goal.invariant-loop-param
invariant-loop-param l = (q : ℕ) → q < l.param → HasPublicValue l.x q → Bound l.x l.run l.key q
