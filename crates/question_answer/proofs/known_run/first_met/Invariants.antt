-- The models before this one do not meet the condition.
use Rattle.std.proofs.Common.{All, take}
use Rattle.circuit_clauses.specs.Condition.{Meets, condition_of}
use Rattle.clause_core.specs.Assignment.{valuation}
use Rattle.question_answer.proofs.known_run.first_met.Given as goal

abbrev pub invariant-loop-model : goal.invariant-loop-model
invariant-loop-model l = All (λ model. ¬ Meets (valuation model) (condition_of l.c)) (take l.model-index l.models)
