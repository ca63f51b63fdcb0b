-- One clause was learned in each turn, and no more than the budget allows.
use Rattle.std.proofs.Common.{◌≡◌, ◌≤◌, ◌-◌, length}
use Rattle.sat_solver.specs.inner.Learner.{IsLearning}
use Rattle.sat_solver.proofs.solver.search_within.Given as goal

abbrev pub invariant-learning : goal.invariant-learning
invariant-learning l = IsLearning l.f l.learner × (length l.learner.steps ≡ l.learned) × (l.learned ≤ l.budget)

abbrev pub decreases-learning : goal.decreases-learning
decreases-learning l = l.budget - l.learned
