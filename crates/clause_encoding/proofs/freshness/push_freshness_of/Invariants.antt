-- What the loop over the parameters has appended.
use Rattle.std.specs.Prelude.{take}
use Rattle.std.specs.List.{flat_map}
use Rattle.clause_encoding.specs.Families.{fresh_clauses_of}
use Rattle.clause_core.specs.Written.{AppendsClauses}
use Rattle.clause_encoding.proofs.freshness.push_freshness_of.Given as goal

-- the clauses of the parameters before the index
abbrev pub invariant-loop-param : goal.invariant-loop-param
invariant-loop-param l = AppendsClauses l.initial.clauses l.clauses (flat_map (fresh_clauses_of l.x l.vars l.m) (take l.param-index l.param-items))
