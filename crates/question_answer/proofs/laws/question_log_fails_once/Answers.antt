-- The law, from its lemmas.
use Rattle.question_answer.proofs.CheckLemmas.{no_failure, one_failure}
use Rattle.question_answer.proofs.laws.question_log_fails_once.Goals as goal

pub returns-clause-failure : goal.returns-clause-failure
returns-clause-failure c = one_failure c.clauses_decide.ensures.failure c.clauses_are_determined.ensures c.fails_once.ensures.failure

pub returns-clause-accepted : goal.returns-clause-accepted
returns-clause-accepted c = no_failure c.clauses_decide.ensures.failure c.clauses_are_determined.ensures c.fails_once.ensures.accepted
