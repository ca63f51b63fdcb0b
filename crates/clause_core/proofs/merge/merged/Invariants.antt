-- The merge keeps the union, and what is left shrinks.
use Rattle.std.proofs.Common.{◌+◌, length}
use Rattle.clause_core.proofs.MergeLemmas.{IsMerging}
use Rattle.clause_core.proofs.merge.merged.Given as goal

-- what was kept and what is left make up the union
abbrev pub invariant-merge : goal.invariant-merge
invariant-merge l = IsMerging l.c l.left l.d l.right l.first l.second l.kept.items

abbrev pub decreases-merge : goal.decreases-merge
decreases-merge l = length l.first + length l.second
