-- What the loop over the second kinds has appended.
use Rattle.std.proofs.Common.{◌-◌}
use Rattle.std.specs.List.{flat_map, range_with_len}
use Rattle.clause_encoding.specs.inner.Occurrence.{occurrence_of_two}
use Rattle.clause_core.specs.Written.{AppendsClauses}
use Rattle.clause_encoding.proofs.occurrence.push_occurrence_of_one.Given as goal

-- the clauses of the kinds before this one
abbrev pub invariant-loop-j : goal.invariant-loop-j
invariant-loop-j l = AppendsClauses l.initial.clauses l.clauses (flat_map (occurrence_of_two l.vars l.i) (range_with_len 1 (l.j - 1)))
