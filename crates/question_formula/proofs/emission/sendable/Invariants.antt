-- What the parameters so far demand of the sender.
use Rattle.std.proofs.Common.{◌≡◌, map, take}
use Rattle.bspl_types.specs.Expansion.{message_of}
use Rattle.circuit_clauses.specs.Condition.{condition_of}
use Rattle.clause_encoding.specs.Carriers.{carriers}
use Rattle.question_formula.specs.Conditions.{demanded, some_occurs}
use Rattle.question_formula.proofs.emission.sendable.Given as goal

abbrev pub invariant-loop-c : goal.invariant-loop-c
invariant-loop-c l =
    map condition_of l.circuits ≡
    map (λ c. demanded c.adornment (some_occurs (carriers l.x (message_of l.x l.m).sender c.param))) (take l.c-index l.c-items)
