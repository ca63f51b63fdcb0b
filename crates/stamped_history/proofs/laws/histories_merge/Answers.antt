-- The law on the merged run, from its lemma.
use Rattle.stamped_history.proofs.RunLemmas.{merges}
use Rattle.stamped_history.proofs.laws.histories_merge.Goals as goal

pub returns : goal.returns
returns c = merges
