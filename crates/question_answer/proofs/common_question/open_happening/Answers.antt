-- The condition is that of the question, and each model has its variables.
use Rattle.circuit_clauses.specs.Condition.{condition_of}
use Rattle.question_answer.proofs.KeptLemmas.{is_condition, models_have}
use Rattle.question_answer.proofs.common_question.open_happening.Goals as goal

pub first_met-requires : goal.first_met-requires
first_met-requires c =
    let condition = condition_of c.in_ok-condition.condition in
    let is = is_condition c.args.a.now c.expanded-x.result.now c.plain_variables.result c.args.q.now condition c.expanded-x.ensures.same c.plain_variables.ensures.exact c.in_ok-condition.ensures in
    models_have c.condition_variables_exist.ensures c.args.a.now c.args.q.now condition c.args.models.now c.requires.about is c.requires.models
