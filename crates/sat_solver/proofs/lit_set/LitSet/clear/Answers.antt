-- The last literal goes in each turn.
use Rattle.sat_solver.proofs.StoredSetLemmas.{last-member, fewer-taken}
use Rattle.sat_solver.proofs.lit_set.LitSet.clear.Goals as goal

pub remove-requires : goal.remove-requires
remove-requires c = rw (← c.self.view_is) (last-member _ _ _ c.index-last.result.now c.self.invariant c.loop-self-test.true c.index-last.ensures)

pub loop-self-smaller : goal.loop-self-smaller
loop-self-smaller c = fewer-taken _ _ _ c.remove.ensures.taken
