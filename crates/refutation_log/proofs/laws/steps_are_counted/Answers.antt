-- Each step has a clause.
use Rattle.refutation_log.proofs.RunLemmas.{log_count}
use Rattle.refutation_log.proofs.laws.steps_are_counted.Goals as goal

pub returns : goal.returns
returns c = log_count
