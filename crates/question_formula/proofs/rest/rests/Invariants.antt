-- The messages before this one have their circuits.
use Rattle.std.proofs.Common.{◌≡◌, map}
use Rattle.std.specs.List.{range_with_len}
use Rattle.circuit_clauses.specs.Condition.{condition_of}
use Rattle.question_formula.specs.Conditions.{rests_at}
use Rattle.question_formula.proofs.rest.rests.Given as goal

abbrev pub invariant-loop-m : goal.invariant-loop-m
invariant-loop-m l = map condition_of l.circuits ≡ map (rests_at l.x l.excused) (range_with_len 0 l.m)
