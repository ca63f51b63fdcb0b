-- What the loop over the positions has found.
use Rattle.std.proofs.Common.{ℕ, ◌<◌}
use Rattle.enactment_model.specs.Rivals.{HasNoRival}
use Rattle.enactment_model.proofs.conflicts.producers.Given as goal

-- no event so far is the second of a conflict
abbrev pub invariant-loop-second : goal.invariant-loop-second
invariant-loop-second l = (k : ℕ) → k < l.second → (p : ℕ) → HasNoRival l.x l.run k p
