-- The law, from its lemmas.
use Rattle.protocol_check.proofs.Checks.{no_failure, one_failure}
use Rattle.protocol_check.proofs.laws.log_fails_once.Goals as goal

pub returns-clause-failure : goal.returns-clause-failure
returns-clause-failure c = one_failure c.clauses_decide.ensures.failure c.clauses_are_determined.ensures c.fails_once.ensures.failure

pub returns-clause-accepted : goal.returns-clause-accepted
returns-clause-accepted c = no_failure c.clauses_decide.ensures.failure c.clauses_are_determined.ensures c.fails_once.ensures.accepted
