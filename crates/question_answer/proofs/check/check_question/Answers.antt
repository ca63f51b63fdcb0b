-- What the check of the formula says is said of the question.
use Rattle.order_axioms.specs.Formula.{whole}
use Rattle.question_answer.proofs.CheckLemmas.{accepted_if_ok, fails_exactly, impossible_if_ok}
use Rattle.question_answer.proofs.check.check_question.Goals as goal

pub returns-clause-ok : goal.returns-clause-ok
returns-clause-ok c = accepted_if_ok c.args.a.now c.args.q.now (whole c.in_ok-formula.formula) c.args.log.now c.check_ordered_log.result c.in_ok-formula.ensures.exact c.check_ordered_log.ensures.ok

pub returns-clause-rejects : goal.returns-clause-rejects
returns-clause-rejects c = λ not_memory e.
    fails_exactly c.clauses_are_determined.ensures c.args.a.now c.args.q.now (whole c.in_ok-formula.formula) c.in_ok-formula.ensures.exact c.args.log.now c.clauses_decide.ensures.failure c.check_ordered_log.result e (c.check_ordered_log.ensures.rejects not_memory e)

pub returns-clause-impossible : goal.returns-clause-impossible
returns-clause-impossible c =
    impossible_if_ok c.impossible_without_model.ensures c.args.a.now c.args.q.now (whole c.in_ok-formula.formula) c.check_ordered_log.result c.requires.about c.in_ok-formula.ensures.exact c.check_ordered_log.ensures.sound
