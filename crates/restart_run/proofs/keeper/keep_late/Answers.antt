-- A fault is a late one.
use Rattle.std.proofs.Common.{true, length, refl, sym, ap, subst}
use Rattle.std.specs.Prelude.{Err}
use Rattle.restart_run.specs.declared.refusal.RestartRefusal.{RestartRefusal}
use Rattle.restart_run.specs.inner.Keeping.{IsRefusedAt}
use Rattle.restart_run.proofs.KeeperLemmas.{held_next, late_refused}
use Rattle.restart_run.proofs.keeper.keep_late.Goals as goal

pub returns-in-Err-clause-refused : goal.returns-in-Err-clause-refused
returns-in-Err-clause-refused g c =
    let d = g.D.Disk in
    let job = c.args._job.now in
    let s = c.args.store.now in
    let t = c.append_next.new.self in
    let e = c.args.entry.now in
    subst (λ (r : RestartRefusal). IsRefusedAt d.may_leave d.counts job c.args.role t.disk r) (sym c.refusal_of.ensures)
    (late_refused d.seen d.may_leave d.clock d.left_since d.counts job c.args.role true s c.requires.keeper refl e (length (d.seen s.disk)) t c.in-Err.trouble
    (held_next d.seen d.may_leave d.clock d.left_since d.counts job c.args.role true s c.requires.keeper g.met.D.Disk.counts_now e t c.is_sound.ensures c.in-Err.ensures.ends)
    (λ is. c.in-Err.ensures.costs.counted (ap Err is)))
