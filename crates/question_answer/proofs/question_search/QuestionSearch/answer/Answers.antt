-- The circuit is the condition of the question.
use Rattle.std.proofs.Common.{ap, ◌∙◌}
use Rattle.bspl_types.specs.declared.expanded.Expanded.{Expanded}
use Rattle.circuit_clauses.specs.Condition.{condition_of}
use Rattle.question_formula.specs.Formula.{question_condition}
use Rattle.question_answer.proofs.KeptLemmas.{is_condition}
use Rattle.question_answer.proofs.question_search.QuestionSearch.answer.Goals as goal

pub known_run-requires-clause-condition : goal.known_run-requires-clause-condition
known_run-requires-clause-condition c =
    is_condition c.self.inside.protocol.now c.expanded-x.result.now c.plain_variables.result c.args.q.now (condition_of c.in_ok-condition.condition) c.expanded-x.ensures.same c.plain_variables.ensures.exact c.in_ok-condition.ensures

pub search-requires-clause-condition : goal.search-requires-clause-condition
search-requires-clause-condition c =
    is_condition c.self.inside.protocol.now c.expanded-x.result.now c.plain_variables.result c.args.q.now (condition_of c.in_ok-condition.condition) c.expanded-x.ensures.same c.plain_variables.ensures.exact c.in_ok-condition.ensures
    ∙ ap (λ (y : Expanded). question_condition y c.args.q.now) c.self.view_is
