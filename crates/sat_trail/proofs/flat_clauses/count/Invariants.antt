-- The literals of the clauses that were passed are counted.
use Rattle.std.proofs.Common.{◌≡◌, ◌-◌, ◌^◌, length, min, take}
use Rattle.std.specs.List.{sum_by}
use Rattle.sat_trail.proofs.flat_clauses.count.Given as goal

abbrev pub invariant-loop-clause : goal.invariant-loop-clause
invariant-loop-clause l = l.count ≡ min (sum_by length (take l.clause-index l.clauses)) (2 ^ 64 - 1)
