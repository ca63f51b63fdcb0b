-- The clauses that were passed have their numbers.
use Rattle.std.proofs.Common.{◌≡◌, Some, map, take}
use Rattle.sat_trail.proofs.flat_clauses.flattened.Given as goal

abbrev pub invariant-loop-clause : goal.invariant-loop-clause
invariant-loop-clause l = l.flat ≡ map Some (take l.clause-index l.clauses)
