-- Each failure excludes the others and acceptance.
use Rattle.log_checker.proofs.OneAnswer.{accepted_not_failing, one_failure}
use Rattle.log_checker.proofs.laws.fails_once.Goals as goal

pub returns-clause-failure : goal.returns-clause-failure
returns-clause-failure c = λ f log first second one other. one_failure c.resolvents_agree.ensures f log first second one other

pub returns-clause-accepted : goal.returns-clause-accepted
returns-clause-accepted c = λ f log reject accepts fails. accepted_not_failing c.resolvents_agree.ensures f log reject fails accepts
