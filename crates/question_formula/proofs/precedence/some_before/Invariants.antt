-- Of the kinds so far those that are not among the others have their circuits.
use Rattle.std.proofs.Common.{◌≡◌, map, take}
use Rattle.std.specs.Prelude.{not, ◌==◌}
use Rattle.std.specs.List.{filter, list_any}
use Rattle.circuit_clauses.specs.Condition.{condition_of}
use Rattle.question_formula.specs.Conditions.{occurs_before}
use Rattle.question_formula.proofs.precedence.some_before.Given as goal

abbrev pub invariant-loop-kind : goal.invariant-loop-kind
invariant-loop-kind l =
    map condition_of l.circuits ≡ map (occurs_before l.vars l.others)
    (filter (λ kind. not (list_any (λ other. other == kind) l.others)) (take l.kind-index l.kinds))
