-- The desk has the planned emission, and stays kept.
use Rattle.std.proofs.Common.{◌≡◌, ◌∙◌, ap}
use Rattle.adapter.specs.Desk.{DeskState}
use Rattle.adapter.specs.Steps.{with_emission}
use Rattle.adapter.proofs.StepLemmas.{plan_kept}
use Rattle.adapter.proofs.emission.emit_planned.Goals as goal

pub returns-clause-kept : goal.returns-clause-kept
returns-clause-kept c =
    let m = c.args.planned.now.envelope.message in
    let new : DeskState = record { store = c.append_planned.new.self; inbox = c.desk.inside.inbox } in
    let changed : new ≡ with_emission c.args.desk.now m =
    (λ i. record { store = c.append_planned.ensures i; inbox = c.desk.inside.inbox }) ∙ ap (λ (d : DeskState). with_emission d m) c.desk.view_is in
    plan_kept c.played_grows.ensures c.equal_values_are_one.ensures.lists c.args.job.now c.args.desk.now new c.args.n c.args.planned.now
    c.is_orderly.ensures c.requires.at_work c.requires.plan changed c.is_consistent.ensures
