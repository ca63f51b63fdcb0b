-- No clause so far is empty.
use Rattle.std.proofs.Common.{[], take, Contains}
use Rattle.lrat_text.proofs.proof.empty_number.Given as goal

abbrev pub invariant-loop-index : goal.invariant-loop-index
invariant-loop-index l = ¬ Contains (take l.index l.clauses) []
