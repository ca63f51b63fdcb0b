-- The trail goes on over the same clauses, and what was set stays set.
use Rattle.std.proofs.Common.{◌≡◌, ◌-◌, length}
use Rattle.sat_solver.specs.inner.Choice.{AreSetUpTo}
use Rattle.sat_solver.specs.inner.Search.{KeepsClauses}
use Rattle.sat_solver.proofs.learner.Learner.search.Given as goal

abbrev pub invariant-deciding : goal.invariant-deciding
invariant-deciding l =
    KeepsClauses l.fn.self.trail l.self.trail × AreSetUpTo l.self.trail l.lowest
    × (l.self.steps ≡ l.fn.self.steps)

abbrev pub decreases-deciding : goal.decreases-deciding
decreases-deciding l = l.self.trail.vars - length l.self.trail.entries
