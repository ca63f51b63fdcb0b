-- The clauses that were passed are satisfied.
use Rattle.std.proofs.Common.{All, take}
use Rattle.clause_core.specs.Assignment.{valuation}
use Rattle.clause_core.specs.Clause.{Satisfies}
use Rattle.sat_solver.proofs.completion.satisfies_stored.Given as goal

abbrev pub invariant-loop-clause : goal.invariant-loop-clause
invariant-loop-clause l = All (Satisfies (valuation l.assignment)) (take l.clause-index l.clause-items)
