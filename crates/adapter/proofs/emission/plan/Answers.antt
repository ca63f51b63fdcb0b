-- What the store would emit is what the rules ask for.
use Rattle.std.proofs.Common.{◌≡◌, ◌∙◌, ap, subst, sym}
use Rattle.local_store.specs.Emission.{IsEmission}
use Rattle.adapter.specs.Desk.{DeskState}
use Rattle.adapter.specs.inner.NextStep.{IsPossible}
use Rattle.adapter.proofs.StepLemmas.{plan_is, possible}
use Rattle.adapter.proofs.emission.plan.Goals as goal

pub plan_step-message-requires : goal.plan_step-message-requires
plan_step-message-requires c =
    subst (λ (d : DeskState). IsPossible d.store c.step_of-step.result) (sym c.desk.view_is)
    (possible c.args.job.now c.args.desk.now c.args.n c.step_of-step.result c.is_orderly.ensures c.requires.at_work.kept c.requires.at_work.number c.step_of-step.ensures)

pub returns : goal.returns
returns c =
    let step = c.step_of-step.result in
    let role_is : c.role.result ≡ c.args.desk.now.store.role = c.role.ensures ∙ ap (λ (d : DeskState). d.store.role) c.desk.view_is in
    let emission = subst (λ (d : DeskState). IsEmission d.store step.message step.key step.outs c.plan_step-message.result) c.desk.view_is c.plan_step-message.ensures in
    plan_is c.args.job.now c.args.desk.now c.args.n c.role.result step c.plan_step-message.result c.envelope_of.result
    c.is_orderly.ensures c.requires.at_work.kept c.requires.at_work.number c.step_of-step.ensures emission role_is c.envelope_of.ensures
