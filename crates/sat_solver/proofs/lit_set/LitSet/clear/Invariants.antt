-- The variables stay, and there are fewer literals in each turn.
use Rattle.std.proofs.Common.{◌≡◌, length}
use Rattle.sat_solver.proofs.lit_set.LitSet.clear.Given as goal

abbrev pub invariant-loop-self : goal.invariant-loop-self
invariant-loop-self l = l.self.vars ≡ l.fn.self.vars

abbrev pub decreases-loop-self : goal.decreases-loop-self
decreases-loop-self l = length l.self.lits
