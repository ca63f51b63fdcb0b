-- The law on one merged run, from its lemma.
use Rattle.stamped_history.proofs.OnceLemmas.{merged_once}
use Rattle.stamped_history.proofs.laws.merged_runs_are_one.Goals as goal

pub returns : goal.returns
returns c = merged_once
