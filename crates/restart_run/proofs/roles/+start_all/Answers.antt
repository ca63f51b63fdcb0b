-- The first roles' stores are started, and then the last one.
use Rattle.std.proofs.Common.{ℕ, ◌≤◌, length, sym, subst}
use Rattle.restart_run.specs.Disks.{bytes_for}
use Rattle.restart_run.specs.inner.Midway.{AreNewKeepers, IsNewKeeper}
use Rattle.restart_run.proofs.RoleLemmas.{new_keeper, new_more}
use Rattle.restart_run.proofs.roles.+start_all.Goals as goal

pub returns-clause-ok : goal.returns-clause-ok
returns-clause-ok g t c =
    let d = g.D.Disk in
    let job = c.args.job.now in
    let k = c.in_ok-keeper.keeper in
    let count : ℕ = length c.last_disk.new.disks in
    let new = new_keeper d.seen d.may_leave d.counts job c.len-role.result (length (d.seen c.in-Some.disk)) k c.in_ok-keeper.ensures.ok c.is_sound.ensures
    (subst (λ (n : ℕ). bytes_for job n ≤ length (d.seen c.in-Some.disk)) (sym c.len-role.ensures) c.in-Some.ensures.blank.large) in
    subst (λ (n : ℕ). AreNewKeepers d.seen d.may_leave d.counts job n c.push.new.self) (sym c.in-Some.ensures.some)
    (new_more d.seen d.may_leave d.counts job count c.start_all.new.keepers c.push.new.self k c.in_ok-start_all.ensures.ok c.in_ok-push.ensures.ok
    (subst (λ (n : ℕ). IsNewKeeper d.seen d.may_leave d.counts job n k) c.len-role.ensures new))
