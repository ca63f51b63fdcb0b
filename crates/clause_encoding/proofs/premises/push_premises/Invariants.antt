-- What the loop over the messages has appended.
use Rattle.std.specs.Prelude.{map}
use Rattle.std.specs.List.{flat_map, range_with_len}
use Rattle.bspl_types.specs.Expansion.{message_of}
use Rattle.clause_encoding.specs.Carriers.{in_parameters}
use Rattle.clause_encoding.specs.Families.{premise_clause}
use Rattle.clause_core.specs.Written.{AppendsClauses}
use Rattle.clause_encoding.proofs.premises.push_premises.Given as goal

-- the clauses of the messages before this one
abbrev pub invariant-loop-m : goal.invariant-loop-m
invariant-loop-m l = AppendsClauses l.initial.clauses l.clauses (flat_map (λ m. map (premise_clause l.x l.vars m) (in_parameters (message_of l.x m))) (range_with_len 0 l.m))
