-- The kinds that were passed are by their places.
use Rattle.std.proofs.Common.{ℕ, ◌+◌, ◌<◌}
use Rattle.clause_core.specs.Assignment.{valuation}
use Rattle.sat_solver.specs.inner.Completion.{AreByPlaces}
use Rattle.sat_solver.proofs.completion.is_by_places.Given as goal

abbrev pub invariant-loop-first : goal.invariant-loop-first
invariant-loop-first l = (i : ℕ) → 0 < i → i < l.first → AreByPlaces l.order (valuation l.assignment) l.places i (l.order.kinds + 1)
