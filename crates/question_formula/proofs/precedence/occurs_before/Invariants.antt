-- After the literal that the kind occurs come those of the others so far.
use Rattle.std.proofs.Common.{◌≡◌, ◌∷◌, map, take}
use Rattle.circuit_clauses.specs.Condition.{Literal, condition_of}
use Rattle.clause_encoding.specs.Variables.{occurs, stands_before}
use Rattle.question_formula.proofs.precedence.occurs_before.Given as goal

abbrev pub invariant-loop-other : goal.invariant-loop-other
invariant-loop-other l =
    map condition_of l.circuits ≡
    Literal (occurs l.kind) ∷ map (λ other. Literal (stands_before l.vars l.kind other)) (take l.other-index l.others)
