-- What the loop over the variables has collected.
use Rattle.std.specs.Prelude.{◌≡◌, ◌-◌, map}
use Rattle.std.specs.List.{range_with_len}
use Rattle.clause_encoding.proofs.clauses.positive_lits.Given as goal
use Rattle.clause_core.specs.Literal.{positive}

-- the literals of the variables before this one
abbrev pub invariant-loop-var : goal.invariant-loop-var
invariant-loop-var l = l.lits ≡ map positive (range_with_len l.first (l.var - l.first))
