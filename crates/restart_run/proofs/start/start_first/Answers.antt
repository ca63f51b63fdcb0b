-- The blank disk is a journal without entries, and so is what a crash leaves of it.
use Rattle.std.proofs.Common.{[]}
use Rattle.restart_run.proofs.StartLemmas.{again_kept, blank_holds, blank_journal, first_kept, keys_distinct, keys_whole, nothing_history, started_for}
use Rattle.restart_run.specs.Disks.{bytes_for}
use Rattle.restart_run.proofs.start.start_first.Goals as goal

pub start-requires-clause-whole : goal.start-requires-clause-whole
start-requires-clause-whole g c =
    let job = c.args.job.now in
    keys_whole job c.args.keys.now c.admitted.result.now c.requires.keys c.admitted.ensures (c.scripts_fit.ensures job.protocol job.script c.script.ensures.fits)

pub start_again-requires-clause-histories : goal.start_again-requires-clause-histories
start_again-requires-clause-histories g c =
    let d = g.D.Disk in
    let job = c.args.job.now in
    blank_holds d.seen d.may_leave d.counts job c.args.role (bytes_for job c.args.role) c.args.disk c.in-Err-DiskFault-default.disk c.requires.blank c.in-Err-DiskFault-default.ensures.kept.now

pub returns-in-Ok-clause-ok : goal.returns-in-Ok-clause-ok
returns-in-Ok-clause-ok g c =
    let d = g.D.Disk in
    let job = c.args.job.now in
    let a = c.admitted.result.now in
    let s = c.in-Ok.store in
    first_kept d.seen d.may_leave d.counts job c.args.role (bytes_for job c.args.role) c.args.disk s (keys_distinct job c.script.result.now c.script.ensures.same c.count.ensures.fits) (g.met.D.Disk.calm c.args.disk) c.requires.blank
    (started_for d.seen d.may_leave d.counts job c.args.role a c.args.keys.now s c.admitted.ensures c.requires.keys c.in-Ok.ensures.ok) c.in-Ok.ensures.still c.in-Ok.ensures.kept.same
    (c.in-Ok.ensures.stands [] (nothing_history a c.args.role c.args.keys.now) (blank_journal (d.seen c.args.disk) c.requires.blank.zeros))

pub returns-in_ok-store-in-Err-DiskFault-default-clause-ok : goal.returns-in_ok-store-in-Err-DiskFault-default-clause-ok
returns-in_ok-store-in-Err-DiskFault-default-clause-ok g c =
    let d = g.D.Disk in
    let job = c.args.job.now in
    let kept = c.in-Err-DiskFault-default.ensures.kept in
    again_kept d.seen d.may_leave d.counts job c.args.role (bytes_for job c.args.role) c.args.disk c.in-Err-DiskFault-default.disk c.in_ok-store-in-Err-DiskFault-default.store c.requires.blank kept.now kept.same c.in_ok-store-in-Err-DiskFault-default.ensures.ok
