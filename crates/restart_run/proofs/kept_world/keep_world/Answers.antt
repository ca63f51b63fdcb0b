-- Stamp by stamp, until no history has a next entry.
use Rattle.world_run.specs.World.{histories_of}
use Rattle.restart_run.proofs.MidwayLemmas.{all_whole, midway_next, one_world}
use Rattle.restart_run.proofs.StampLemmas.{all_below}
use Rattle.restart_run.proofs.kept_world.keep_world.Goals as goal

pub loop-stamp-preserved : goal.loop-stamp-preserved
loop-stamp-preserved g c =
    let d = g.D.Disk in
    midway_next d.seen d.may_leave d.counts c.args.job.now (histories_of c.args.world.now.desks) c.loop-stamp.stamp c.keep_stamp.new.keepers c.in_ok-keep_stamp.ensures.ok

pub returns-clause-ok : goal.returns-clause-ok
returns-clause-ok g c =
    let d = g.D.Disk in
    let job = c.args.job.now in
    let histories = histories_of c.args.world.now.desks in
    all_whole d.seen d.may_leave d.counts job histories c.highest_stamp-last.result c.keep_stamp-2.new.keepers c.requires.local.count c.in_ok-keep_stamp-2.ensures.ok
    (all_below job.protocol histories c.highest_stamp-last.result c.local_stamps_rise.ensures c.requires.local c.highest_stamp-last.ensures)

pub returns-clause-one_world : goal.returns-clause-one_world
returns-clause-one_world g c =
    let d = g.D.Disk in
    one_world d.seen d.may_leave d.counts c.args.job.now (histories_of c.args.world.now.desks) c.keep_stamp-2.new.keepers c.in_ok-keep_stamp-2.ensures.ok.behind
