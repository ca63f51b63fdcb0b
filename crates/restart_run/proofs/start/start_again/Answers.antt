-- The workload keys have a value for each key parameter.
use Rattle.restart_run.proofs.StartLemmas.{keys_whole}
use Rattle.restart_run.proofs.start.start_again.Goals as goal

pub start-requires-clause-whole : goal.start-requires-clause-whole
start-requires-clause-whole g c =
    let job = c.args.job.now in
    keys_whole job c.args.keys.now c.admitted.result.now c.requires.keys c.admitted.ensures (c.scripts_fit.ensures job.protocol job.script c.script.ensures.fits)
