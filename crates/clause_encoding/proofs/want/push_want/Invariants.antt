-- What the loop over the kinds has appended.
use Rattle.std.specs.Prelude.{map, take}
use Rattle.clause_core.specs.Written.{AppendsClauses}
use Rattle.clause_encoding.specs.inner.Lacking.{absence_clause}
use Rattle.clause_encoding.proofs.want.push_want.Given as goal

-- the clauses of the kinds before the index
abbrev pub invariant-loop-carrier : goal.invariant-loop-carrier
invariant-loop-carrier l = AppendsClauses l.initial.clauses l.clauses (map (absence_clause l.lacks) (take l.carrier-index l.carrier-items))
