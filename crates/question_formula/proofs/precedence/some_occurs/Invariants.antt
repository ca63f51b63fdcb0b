-- The literals of the kinds so far.
use Rattle.std.proofs.Common.{◌≡◌, map, take}
use Rattle.circuit_clauses.specs.Condition.{Literal, condition_of}
use Rattle.clause_encoding.specs.Variables.{occurs}
use Rattle.question_formula.proofs.precedence.some_occurs.Given as goal

abbrev pub invariant-loop-kind : goal.invariant-loop-kind
invariant-loop-kind l = map condition_of l.circuits ≡ map (λ kind. Literal (occurs kind)) (take l.kind-index l.kinds)
