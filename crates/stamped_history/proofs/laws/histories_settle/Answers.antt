-- The law on settled histories, from its lemma.
use Rattle.stamped_history.proofs.PlayedLemmas.{settles}
use Rattle.stamped_history.proofs.laws.histories_settle.Goals as goal

pub returns : goal.returns
returns c = settles
