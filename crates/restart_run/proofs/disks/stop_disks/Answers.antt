-- One disk more, and all are blank.
use Rattle.restart_run.proofs.StopLemmas.{stop_blank, stop_more}
use Rattle.restart_run.proofs.disks.stop_disks.Goals as goal

pub loop-role-preserved : goal.loop-role-preserved
loop-role-preserved c =
    stop_more c.args.job.now c.args.stops.now c.args.fill c.bytes_for-size.result c.loop-role.role c.loop-role.disks c.push.new.self c.in_ok-disk.disk c.loop-role.invariant.0 c.loop-role.invariant.1 c.bytes_for-size.ensures c.in_ok-disk.ensures c.in_ok-push.ensures.ok

pub returns-clause-blank : goal.returns-clause-blank
returns-clause-blank c = stop_blank c.args.job.now c.args.stops.now c.args.fill c.loop-role.disks c.loop-role.invariant.1
