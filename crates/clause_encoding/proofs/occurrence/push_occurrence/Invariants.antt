-- What the loop over the first kinds has appended.
use Rattle.std.proofs.Common.{◌-◌}
use Rattle.std.specs.List.{flat_map, range_with_len}
use Rattle.clause_encoding.specs.inner.Occurrence.{occurrence_of_one}
use Rattle.clause_core.specs.Written.{AppendsClauses}
use Rattle.clause_encoding.proofs.occurrence.push_occurrence.Given as goal

-- the clauses of the kinds before this one
abbrev pub invariant-loop-i : goal.invariant-loop-i
invariant-loop-i l = AppendsClauses l.initial.clauses l.clauses (flat_map (occurrence_of_one l.vars) (range_with_len 1 (l.i - 1)))
