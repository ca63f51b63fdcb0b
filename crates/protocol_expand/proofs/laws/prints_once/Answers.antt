-- The law on the text of an expansion.
use Rattle.protocol_expand.proofs.BareSame.{one_text}
use Rattle.protocol_expand.proofs.laws.prints_once.Goals as goal

pub returns : goal.returns
returns c = one_text
