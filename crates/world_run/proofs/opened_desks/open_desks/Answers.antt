-- One desk more.
use Rattle.std.proofs.Common.{◌+◌, List, arith, length, ap, sym, subst, ◌∙◌}
use Rattle.adapter.specs.Desk.{DeskState}
use Rattle.bspl_types.specs.declared.expanded.Expanded.{Expanded}
use Rattle.world_run.proofs.OpenLemmas.{opened_all, opened_more, opened_start, OpenedTo}
use Rattle.world_run.proofs.opened_desks.open_desks.Goals as goal

pub loop-role-init : goal.loop-role-init
loop-role-init c = subst (λ (ds : List DeskState). OpenedTo c.args.job.now ds 0) (sym c.new-desks.ensures) (opened_start c.args.job.now)

pub open_desk-requires : goal.open_desk-requires
open_desk-requires c = omega (arith, c.loop-role-test.true, c.len-roles.ensures, ap (λ (x : Expanded). length x.roles) (c.expanded.ensures.same ∙ c.admitted.ensures))

pub loop-role-preserved : goal.loop-role-preserved
loop-role-preserved c =
    subst (λ (ds : List DeskState). OpenedTo c.args.job.now ds (c.loop-role.role + 1)) (sym c.in_ok-push.ensures.ok)
    (opened_more c.args.job.now c.loop-role.desks c.loop-role.role c.in_ok-desk.desk c.loop-role.invariant c.in_ok-desk.ensures)

pub returns : goal.returns
returns c = opened_all c.args.job.now c.loop-role.desks (subst (OpenedTo c.args.job.now c.loop-role.desks) (omega (arith, c.loop-role-test.false, c.loop-role.auto.role-end, c.len-roles.ensures, ap (λ (x : Expanded). length x.roles) (c.expanded.ensures.same ∙ c.admitted.ensures))) c.loop-role.invariant)
