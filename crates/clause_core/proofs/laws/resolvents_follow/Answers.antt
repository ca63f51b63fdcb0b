-- The law that a resolvent follows.
use Rattle.clause_core.proofs.ResolventLemmas.{resolvent_follows}
use Rattle.clause_core.proofs.laws.resolvents_follow.Goals as goal

pub returns : goal.returns
returns c = resolvent_follows
