-- The law that two resolvents are one.
use Rattle.clause_core.proofs.ResolventLemmas.{resolvent_one}
use Rattle.clause_core.proofs.laws.resolvents_agree.Goals as goal

pub returns : goal.returns
returns c = resolvent_one
