-- The law, from those of histories and of runs.
use Rattle.world_run.proofs.WorldLemmas.{merge_played}
use Rattle.world_run.proofs.laws.kept_desks_merge.Goals as goal

pub returns : goal.returns
returns c job desks script kept explained =
    merge_played c.histories_merge.ensures c.histories_play.ensures c.local_stamps_rise.ensures job desks (c.scripts_fit.ensures job.protocol job.script script) kept explained
