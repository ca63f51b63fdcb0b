-- The first parameter that is not allowed is refused, and at the end all are allowed.
use Rattle.std.proofs.Common.{refl, subst}
use Rattle.std.specs.List.{All}
use Rattle.std.proofs.lemmas.List.{take_all}
use Rattle.std.proofs.lemmas.List.Elements.{All-more}
use Rattle.bspl_types.specs.declared.protocol.Adornment.TheVariants.{In}
use Rattle.enactment_model.specs.BadEvent.{IsAllowed, IsFirstReason}
use Rattle.enactment_model.proofs.ReasonLemmas.{first_reason_at, handed_on}
use Rattle.enactment_model.proofs.legality.check_all.Goals as goal
use Rattle.bspl_types.specs.History.{sender_history}

pub returns-in_err-check_param-clause-why : goal.returns-in_err-check_param-clause-why
returns-in_err-check_param-clause-why c =
    let i = c.args.instance.now in
    let h = sender_history c.args.x.now c.args.before.now i.message in
    let why = c.in_err-check_param.field-0.0 in
    handed_on c.from_residual.result why (IsFirstReason c.args.x.now h i c.args.carried.now) c.from_residual.ensures.1
    (first_reason_at c.args.x.now h i c.args.carried.now c.loop-c.c-index (record { param = 0; adornment = In }) why c.loop-c-test.true c.loop-c.invariant c.in_err-check_param.ensures.why)

pub loop-c-preserved : goal.loop-c-preserved
loop-c-preserved c =
    let i = c.args.instance.now in
    let h = sender_history c.args.x.now c.args.before.now i.message in
    All-more (IsAllowed c.args.x.now h i) c.args.carried.now c.loop-c.c-index (record { param = 0; adornment = In }) c.loop-c-test.true c.loop-c.invariant (c.in_ok-check_param.ensures.exact.0 refl)

pub returns-clause-exact : goal.returns-clause-exact
returns-clause-exact c =
    let i = c.args.instance.now in
    let h = sender_history c.args.x.now c.args.before.now i.message in
    (λ _. subst (All (IsAllowed c.args.x.now h i)) (take_all c.loop-c.c-index c.args.carried.now c.loop-c-test.false) c.loop-c.invariant, λ _. refl)
