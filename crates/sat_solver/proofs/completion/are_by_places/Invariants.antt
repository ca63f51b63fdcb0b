-- The kind is by its place among the later ones that were passed.
use Rattle.clause_core.specs.Assignment.{valuation}
use Rattle.sat_solver.specs.inner.Completion.{AreByPlaces}
use Rattle.sat_solver.proofs.completion.are_by_places.Given as goal

abbrev pub invariant-loop-second : goal.invariant-loop-second
invariant-loop-second l = AreByPlaces l.order (valuation l.assignment) l.places l.first l.second
