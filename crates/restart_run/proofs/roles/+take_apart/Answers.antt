-- The first roles are taken apart, and then the last one.
use Rattle.std.proofs.Common.{rules, ◌<◌, ◌≤◌, List, length, arith}
use Rattle.adapter.specs.Desk.{DeskState}
use Rattle.world_run.specs.World.{histories_of}
use Rattle.restart_run.specs.declared.keeper.Keeper.{Keeper}
use Rattle.restart_run.specs.inner.Midway.{AreWhole}
use Rattle.restart_run.proofs.RoleLemmas.{first_whole, last_kept, few_histories, last_within, one_fewer, restarts_few}
use Rattle.restart_run.proofs.roles.+take_apart.Goals as goal

pub take_apart-requires : goal.take_apart-requires
take_apart-requires g t c =
    let d = g.D.Disk in
    let job = c.args.job.now in
    let desks : List DeskState = c.args.world.now.desks in
    let first : List (Keeper g.row.D.Denot) = c.pop.new.self in
    let k = c.in-Some.keeper in
    let few : length first ≤ length job.protocol.roles = one_fewer c.args.keepers.now first k (length job.protocol.roles) c.in-Some.ensures.last c.requires.few in
    let many : length first ≤ length desks = one_fewer c.args.keepers.now first k (length desks) c.in-Some.ensures.last c.requires.many in
    let shorter : length first < length c.args.keepers.now = last_within c.args.keepers.now first k (length c.args.keepers.now) c.in-Some.ensures.last (omega arith) in
    let whole : AreWhole d.seen d.may_leave d.counts job (histories_of desks) first = first_whole d.seen d.may_leave d.counts job (histories_of desks) c.args.keepers.now first k c.in-Some.ensures.last c.requires.whole in
    first_of (search (rules, few, many, shorter, whole, c.requires.none), grind (arith, few, many, shorter, whole, c.requires.none))

pub add-requires : goal.add-requires
add-requires g t c =
    let d = g.D.Disk in
    restarts_few d.may_leave d.counts c.args.job.now (histories_of c.args.world.now.desks) (length c.pop.new.self) c.take_apart.new.kept (last_within c.args.keepers.now c.pop.new.self c.in-Some.keeper (length c.args.job.now.protocol.roles) c.in-Some.ensures.last c.requires.few) c.in_ok-take_apart.ensures

pub returns : goal.returns
returns g t c =
    let d = g.D.Disk in
    last_kept d.seen d.may_leave d.counts c.args.job.now (histories_of c.args.world.now.desks) c.args.keepers.now c.pop.new.self c.in-Some.keeper c.in-Some.ensures.last c.requires.whole c.take_apart.new.kept c.add.new.self
    (few_histories c.args.world.now.desks (length c.args.keepers.now) c.requires.many) c.in_ok-take_apart.ensures c.in_ok-add.ensures
