-- What the loop over the events has found.
use Rattle.std.proofs.Common.{ℕ, ◌<◌}
use Rattle.enactment_model.specs.Safety.{ProducesAt}
use Rattle.enactment_model.proofs.conflicts.first_producer.Given as goal

-- no event so far produces the parameter
abbrev pub invariant-loop-index : goal.invariant-loop-index
invariant-loop-index l = (k : ℕ) → k < l.index → ¬ ProducesAt l.x l.run l.key l.param k
