-- The law on histories, from its lemma.
use Rattle.stamped_history.proofs.PlayedLemmas.{plays}
use Rattle.stamped_history.proofs.laws.histories_play.Goals as goal

pub returns : goal.returns
returns c = plays
