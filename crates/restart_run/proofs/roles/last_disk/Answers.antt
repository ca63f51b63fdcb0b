-- The first disks are blank, whether there was a last one or not.
use Rattle.restart_run.proofs.RoleLemmas.{rest_blank}
use Rattle.restart_run.proofs.roles.last_disk.Goals as goal

pub returns-clause-rest : goal.returns-clause-rest
returns-clause-rest g c =
    let d = g.D.Disk in
    rest_blank d.seen d.may_leave d.counts c.args._job.now c.args.disks.now c.pop.new.self c.pop.result c.pop.ensures.last c.pop.ensures.none c.requires
