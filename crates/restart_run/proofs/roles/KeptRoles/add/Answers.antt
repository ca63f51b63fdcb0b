-- A desk and a disk are added, and the restart is counted if there was one.
use Rattle.std.proofs.Common.{ap, sym, ◌∙◌, ◌+◌, Bool}
use Rattle.std.specs.Prelude.{if◌then◌else◌}
use Rattle.adapter.specs.Desk.{DeskState}
use Rattle.restart_run.proofs.RoleLemmas.{adds_role}
use Rattle.restart_run.proofs.roles.KeptRoles.add.Goals as goal

pub returns-then-restarted : goal.returns-then-restarted
returns-then-restarted g c =
    let old = c.args.self.now in
    adds_role c.args.keeper.restarted c.args.keeper.store old (record { desks = c.push.new.self; disks = c.push-2.new.self; restarts = old.restarts + 1 }) c.into_parts-store.result c.of.result c.into_parts-store.ensures
    (ap (λ (d : DeskState). d.store) c.of.ensures) (ap (λ (d : DeskState). d.inbox.envelopes) c.of.ensures ∙ c.new.ensures) c.in_ok-push.ensures.ok c.in_ok-push-2.ensures.ok
    (ap (λ (b : Bool). if b then old.restarts + 1 else old.restarts) (sym c.if-restarted.true))

pub returns-else-restarted : goal.returns-else-restarted
returns-else-restarted g c =
    let old = c.args.self.now in
    adds_role c.args.keeper.restarted c.args.keeper.store old (record { desks = c.push.new.self; disks = c.push-2.new.self; restarts = old.restarts }) c.into_parts-store.result c.of.result c.into_parts-store.ensures
    (ap (λ (d : DeskState). d.store) c.of.ensures) (ap (λ (d : DeskState). d.inbox.envelopes) c.of.ensures ∙ c.new.ensures) c.in_ok-push.ensures.ok c.in_ok-push-2.ensures.ok
    (ap (λ (b : Bool). if b then old.restarts + 1 else old.restarts) (sym c.if-restarted.false))
