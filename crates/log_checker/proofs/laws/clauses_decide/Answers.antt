-- The law, from its lemmas.
use Rattle.log_checker.proofs.OneFormula.{accepts_moved, fails_moved}
use Rattle.log_checker.proofs.laws.clauses_decide.Goals as goal

pub returns-clause-accepted : goal.returns-clause-accepted
returns-clause-accepted c = accepts_moved

pub returns-clause-failure : goal.returns-clause-failure
returns-clause-failure c = fails_moved
