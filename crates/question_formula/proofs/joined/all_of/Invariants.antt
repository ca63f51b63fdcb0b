-- What is left and what was made stand for the whole.
use Rattle.std.proofs.Common.{◌≡◌, length, map}
use Rattle.circuit_clauses.specs.Condition.{condition_of}
use Rattle.question_formula.specs.Conditions.{all_of}
use Rattle.question_formula.proofs.CircuitLemmas.{with_made}
use Rattle.question_formula.proofs.joined.all_of.Given as goal

abbrev pub invariant-earlier : goal.invariant-earlier
invariant-earlier l = all_of (with_made l.circuits l.made) ≡ all_of (map condition_of l.fn.circuits)

abbrev pub decreases-earlier : goal.decreases-earlier
decreases-earlier l = length l.circuits
