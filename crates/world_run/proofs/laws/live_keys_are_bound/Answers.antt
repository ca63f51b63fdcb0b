-- The law, from the one that histories merge into one run at most.
use Rattle.world_run.proofs.FinishedTableLemmas.{live_bound}
use Rattle.world_run.proofs.laws.live_keys_are_bound.Goals as goal

pub returns : goal.returns
returns c = live_bound c.merged_runs_are_one.ensures
