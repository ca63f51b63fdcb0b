-- The law, by its lemma.
use Rattle.protocol_limits.proofs.PrivateLemmas.{privates_counted}
use Rattle.protocol_limits.proofs.laws.privates_are_counted.Goals as goal

pub returns : goal.returns
returns c = privates_counted c.weights_add_up.ensures
