-- What the loop over the parameters has appended.
use Rattle.std.specs.Prelude.{map, take}
use Rattle.clause_encoding.specs.Families.{premise_clause}
use Rattle.clause_core.specs.Written.{AppendsClauses}
use Rattle.clause_encoding.proofs.premises.push_premises_of.Given as goal

-- the clauses of the parameters before the index
abbrev pub invariant-loop-param : goal.invariant-loop-param
invariant-loop-param l = AppendsClauses l.initial.clauses l.clauses (map (premise_clause l.x l.vars l.m) (take l.param-index l.param-items))
