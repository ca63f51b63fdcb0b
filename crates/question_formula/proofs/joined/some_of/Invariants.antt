-- What is left and what was made stand for the whole.
use Rattle.std.proofs.Common.{◌≡◌, length, map}
use Rattle.circuit_clauses.specs.Condition.{condition_of}
use Rattle.question_formula.specs.Conditions.{some_of}
use Rattle.question_formula.proofs.CircuitLemmas.{with_made}
use Rattle.question_formula.proofs.joined.some_of.Given as goal

abbrev pub invariant-earlier : goal.invariant-earlier
invariant-earlier l = some_of (with_made l.circuits l.made) ≡ some_of (map condition_of l.fn.circuits)

abbrev pub decreases-earlier : goal.decreases-earlier
decreases-earlier l = length l.circuits
