-- The law on one event more, from its lemma.
use Rattle.stamped_history.proofs.PlayedLemmas.{grows}
use Rattle.stamped_history.proofs.laws.played_grows.Goals as goal

pub returns : goal.returns
returns c = grows
