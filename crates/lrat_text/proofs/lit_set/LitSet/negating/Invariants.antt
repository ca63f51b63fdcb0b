-- The negations so far.
use Rattle.std.proofs.Common.{map, take}
use Rattle.clause_core.specs.Literal.{negated}
use Rattle.lrat_text.specs.inner.LitSet.{Holds}
use Rattle.lrat_text.proofs.lit_set.LitSet.negating.Given as goal

-- those of the literals before this one are in the set
abbrev pub invariant-loop-lit : goal.invariant-loop-lit
invariant-loop-lit l = Holds l.set.ranks (map negated (take l.lit-index l.lits))
