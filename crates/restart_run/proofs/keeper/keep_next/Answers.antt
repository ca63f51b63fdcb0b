-- The disk failed while the entry was appended.
use Rattle.std.proofs.Common.{ap}
use Rattle.std.specs.Prelude.{Err}
use Rattle.restart_run.proofs.KeeperLemmas.{cut_off}
use Rattle.restart_run.proofs.keeper.keep_next.Goals as goal

pub restart-requires-clause-cut : goal.restart-requires-clause-cut
restart-requires-clause-cut g c =
    let d = g.D.Disk in
    cut_off d.seen d.may_leave d.clock d.left_since d.counts c.args.job.now c.args.role c.args.keeper.now.restarted c.args.keeper.now.store c.requires.keeper g.met.D.Disk.counts_now
    c.args.entry.now c.append_next.new.self c.is_sound.ensures c.requires.next c.in-Err-Failed.ensures.ends (c.in-Err-Failed.ensures.costs.counted (ap Err c.in-Err-Failed.field-0-is))
