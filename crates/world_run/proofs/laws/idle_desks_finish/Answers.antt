-- The law, from those of runs and the facts that a job keeps.
use Rattle.agent_scripts.specs.Job.{Job}
use Rattle.world_run.proofs.FinishLemmas.{finished}
use Rattle.world_run.proofs.laws.idle_desks_finish.Goals as goal

pub returns : goal.returns
returns c desks sound whole idle =
    let job : Job = c.args.job.now in
    let orderly = c.is_orderly.ensures in
    finished job desks orderly.fitting.distinct orderly.fits sound whole idle orderly.fitting.some c.histories_settle.ensures
    (c.kept_desks_merge.ensures job desks orderly.script_is sound.kept sound.explained)
