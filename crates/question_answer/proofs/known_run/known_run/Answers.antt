-- The condition is that of the question, and each model has its variables.
use Rattle.std.proofs.Common.{All, subst}
use Rattle.circuit_clauses.specs.Condition.{Condition, Meets, condition_of}
use Rattle.clause_core.specs.Assignment.{valuation}
use Rattle.question_answer.proofs.KeptLemmas.{models_have}
use Rattle.question_answer.proofs.known_run.known_run.Goals as goal

pub first_met-requires : goal.first_met-requires
first_met-requires c =
    models_have c.condition_variables_exist.ensures c.args.a.now c.args.q.now (condition_of c.args.condition.now) c.args.models.now c.requires.about c.requires.condition c.requires.models

pub returns-in-None : goal.returns-in-None
returns-in-None c =
    subst (λ (d : Condition). All (λ model. ¬ Meets (valuation model) d) c.args.models.now) c.requires.condition c.in-None.ensures
