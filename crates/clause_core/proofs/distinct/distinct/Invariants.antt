-- What the pass over a sorted list keeps.
use Rattle.clause_core.proofs.DistinctLemmas.{IsDistinct}
use Rattle.clause_core.proofs.distinct.distinct.Given as goal

-- so many literals were passed
abbrev pub invariant-loop-lit : goal.invariant-loop-lit
invariant-loop-lit l = IsDistinct l.sorted l.lit-index l.kept.items
