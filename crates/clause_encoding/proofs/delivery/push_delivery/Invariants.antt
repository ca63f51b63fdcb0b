-- What the loop over the messages has appended.
use Rattle.std.specs.Prelude.{map}
use Rattle.std.specs.List.{range_with_len}
use Rattle.clause_core.specs.Written.{AppendsClauses}
use Rattle.clause_encoding.specs.inner.Implications.{delivery_clause}
use Rattle.clause_encoding.proofs.delivery.push_delivery.Given as goal

-- the clauses of the messages before this one
abbrev pub invariant-loop-m : goal.invariant-loop-m
invariant-loop-m l = AppendsClauses l.initial.clauses l.clauses (map (delivery_clause l.vars) (range_with_len 0 l.m))
