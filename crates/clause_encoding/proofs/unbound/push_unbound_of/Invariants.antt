-- What the loop over the messages has appended.
use Rattle.std.specs.List.{flat_map, range_with_len}
use Rattle.clause_core.specs.Written.{AppendsClauses}
use Rattle.clause_encoding.specs.inner.Lacking.{unbound_by}
use Rattle.clause_encoding.proofs.unbound.push_unbound_of.Given as goal

-- the clauses of the messages before this one
abbrev pub invariant-loop-m : goal.invariant-loop-m
invariant-loop-m l = AppendsClauses l.initial.clauses l.clauses (flat_map (unbound_by l.x l.unbound l.param) (range_with_len 0 l.m))
