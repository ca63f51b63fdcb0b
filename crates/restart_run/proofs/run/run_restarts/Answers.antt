-- All roles are kept.
use Rattle.std.proofs.Common.{ℕ, ap, length, subst, arith}
use Rattle.world_run.specs.World.{WorldState, histories_of}
use Rattle.restart_run.specs.inner.Midway.{AreNewKeepers}
use Rattle.restart_run.proofs.MidwayLemmas.{none_kept_yet}
use Rattle.restart_run.proofs.RoleLemmas.{all_kept, desks_may, of_one}
use Rattle.restart_run.proofs.run.run_restarts.Goals as goal

pub keep_world-requires-clause-new : goal.keep_world-requires-clause-new
keep_world-requires-clause-new g c =
    let d = g.D.Disk in
    let job = c.args.job.now in
    let desks = c.in_ok-world.world.desks in
    let keepers = c.start_all.new.keepers in
    let new = subst (λ (n : ℕ). AreNewKeepers d.seen d.may_leave d.counts job n keepers) c.requires.count c.in_ok-start_all.ensures.ok in
    none_kept_yet d.seen d.may_leave d.counts job (histories_of desks) keepers new (desks_may d.seen d.may_leave d.counts job desks keepers c.in_ok-world.ensures.course.kept c.kept_events_are_few.ensures new)

pub take_apart-requires-clause-few : goal.take_apart-requires-clause-few
take_apart-requires-clause-few g c = omega (arith, c.in_ok-keep_world.ensures.count)

pub take_apart-requires-clause-many : goal.take_apart-requires-clause-many
take_apart-requires-clause-many g c = omega (arith, c.in_ok-keep_world.ensures.count, c.in_ok-world.ensures.course.kept.count)

pub of-requires : goal.of-requires
of-requires g c =
    let d = g.D.Disk in
    of_one d.may_leave d.counts c.args.job.now (histories_of c.in_ok-world.world.desks) (length c.keep_world.new.keepers) c.take_apart.new.kept c.in_ok-keep_world.ensures.count c.in_ok-take_apart.ensures

pub returns-clause-ok : goal.returns-clause-ok
returns-clause-ok g c =
    let d = g.D.Disk in
    all_kept d.may_leave d.counts c.args.job.now c.in_ok-world.world.desks c.take_apart.new.kept c.of.result (length c.keep_world.new.keepers) c.in_ok-keep_world.ensures.count c.in_ok-keep_world.ensures.ok.from_steps c.in_ok-world.ensures.course c.in_ok-world.ensures.finished c.in_ok-take_apart.ensures (ap (λ (w : WorldState). w.desks) c.of.ensures)
