-- The lowest role so far.
use Rattle.history_audit.proofs.RingLemmas.{IsLowestOf}
use Rattle.history_audit.proofs.cycle.lowest_role.Given as goal

abbrev pub invariant-loop-index : goal.invariant-loop-index
invariant-loop-index l = IsLowestOf l.points l.index l.lowest
