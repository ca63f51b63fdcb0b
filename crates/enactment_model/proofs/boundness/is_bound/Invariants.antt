-- What the loop over the roles has found.
use Rattle.std.proofs.Common.{ℕ, ◌<◌}
use Rattle.bspl_types.specs.History.{history_of}
use Rattle.bspl_types.specs.Knowledge.{IsKnown}
use Rattle.enactment_model.proofs.boundness.is_bound.Given as goal

-- no role so far knows the parameter
abbrev pub invariant-loop-role : goal.invariant-loop-role
invariant-loop-role l = (r : ℕ) → r < l.role → ¬ IsKnown l.x (history_of l.x r l.run) l.key l.param
