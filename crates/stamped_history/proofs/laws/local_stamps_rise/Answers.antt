-- The law on the stamps of a local history, from its lemma.
use Rattle.stamped_history.proofs.RisingLemmas.{local_rise}
use Rattle.stamped_history.proofs.laws.local_stamps_rise.Goals as goal

pub returns : goal.returns
returns c = local_rise
