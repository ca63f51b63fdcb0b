-- The law, by its lemma.
use Rattle.bspl_types.proofs.ReadingLemmas.{one_value}
use Rattle.bspl_types.proofs.laws.spells_once.Goals as goal

pub returns : goal.returns
returns c = one_value
