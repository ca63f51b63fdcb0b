-- What the loop over the kinds has appended.
use Rattle.std.specs.Prelude.{map, take}
use Rattle.clause_core.specs.Written.{AppendsClauses}
use Rattle.clause_encoding.specs.inner.Implications.{fresh_clause}
use Rattle.clause_encoding.proofs.freshness.push_freshness_for.Given as goal

-- the clauses of the kinds before the index
abbrev pub invariant-loop-carrier : goal.invariant-loop-carrier
invariant-loop-carrier l = AppendsClauses l.initial.clauses l.clauses (map (fresh_clause l.vars l.m) (take l.carrier-index l.carrier-items))
