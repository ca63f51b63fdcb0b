-- What contains a live clause is live.
use Rattle.refutation_log.proofs.RunLemmas.{new_log_resolves}
use Rattle.refutation_log.proofs.laws.new_resolves.Goals as goal

pub returns : goal.returns
returns c = new_log_resolves
