-- What is lacked contains no clause over which it is lacked.
use Rattle.refutation_log.proofs.NewnessLemmas.{new_irredundant}
use Rattle.refutation_log.proofs.laws.new_clauses_are_irredundant.Goals as goal

pub returns : goal.returns
returns c = new_irredundant
