-- The law on two expansions of one protocol.
use Rattle.protocol_expand.proofs.ExpansionIsUnique.{one_expansion}
use Rattle.protocol_expand.proofs.laws.expansions_are_unique.Goals as goal

pub returns : goal.returns
returns c = one_expansion
