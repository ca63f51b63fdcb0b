-- The law on what two roles know, from its lemma.
use Rattle.stamped_history.proofs.RunLemmas.{agrees}
use Rattle.stamped_history.proofs.laws.stores_agree.Goals as goal

pub returns : goal.returns
returns c = agrees
