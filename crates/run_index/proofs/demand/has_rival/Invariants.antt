-- None of the messages so far is a rival.
use Rattle.std.proofs.Common.{ℕ, ◌<◌}
use Rattle.run_index.specs.inner.Knowing.{IsKnownRival}
use Rattle.run_index.proofs.demand.has_rival.Given as goal

abbrev pub invariant-loop-other : goal.invariant-loop-other
invariant-loop-other l = (other : ℕ) → other < l.other → ¬ IsKnownRival l.x l.facts l.message other
