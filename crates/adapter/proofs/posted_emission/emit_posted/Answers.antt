-- The desk emits the planned envelope, which was put first.
use Rattle.std.proofs.Common.{Some, subst, sym}
use Rattle.adapter.specs.State.{IsStateKept, StateView}
use Rattle.adapter.specs.StateSteps.{EmitsNext, IsStateAtWork}
use Rattle.adapter.specs.inner.NextStep.{IsPlan}
use Rattle.adapter.proofs.MailedLemmas.{step_keeps}
use Rattle.adapter.proofs.posted_emission.emit_posted.Goals as goal

pub returns-clause-kept : goal.returns-clause-kept
returns-clause-kept g c =
    let job = c.args.job.now in
    let boxes = c.args.post.now in
    let desk = c.emit_planned.new.desk in
    let s : StateView = record { desk = c.state.inside.desk; passes = c.state.inside.passes } in
    let work : IsStateAtWork job boxes s c.args.n = subst (λ (x : StateView). IsStateAtWork job boxes x c.args.n) (sym c.state.view_is) c.requires.at_work in
    let plan = subst (λ (x : StateView). IsPlan job x.desk.store c.args.n c.args.planned.now) (sym c.state.view_is) c.requires.plan in
    let keeps = step_keeps c.equal_values_are_one.ensures.lists job boxes s c.args.n c.args.planned.now.envelope desk c.post_planned.new.passes c.is_orderly.ensures work
    plan.next c.emit_planned.ensures.kept c.emit_planned.ensures.changed c.in_ok-post_planned.ensures.ok in
    subst (λ (x : StateView). IsStateKept job x.desk.store.role boxes (record { desk = desk; passes = c.post_planned.new.passes })) c.state.view_is keeps.0

pub returns-clause-ok : goal.returns-clause-ok
returns-clause-ok g c =
    let job = c.args.job.now in
    let boxes = c.args.post.now in
    let desk = c.emit_planned.new.desk in
    let s : StateView = record { desk = c.state.inside.desk; passes = c.state.inside.passes } in
    let work : IsStateAtWork job boxes s c.args.n = subst (λ (x : StateView). IsStateAtWork job boxes x c.args.n) (sym c.state.view_is) c.requires.at_work in
    let plan = subst (λ (x : StateView). IsPlan job x.desk.store c.args.n c.args.planned.now) (sym c.state.view_is) c.requires.plan in
    let keeps = step_keeps c.equal_values_are_one.ensures.lists job boxes s c.args.n c.args.planned.now.envelope desk c.post_planned.new.passes c.is_orderly.ensures work
    plan.next c.emit_planned.ensures.kept c.emit_planned.ensures.changed c.in_ok-post_planned.ensures.ok in
    subst (λ (x : StateView). EmitsNext job c.args.n x (Some c.args.planned.now.envelope) (record { desk = desk; passes = c.post_planned.new.passes })) c.state.view_is keeps.1
