-- The first parameter that is not permitted blocks, and at the end all are permitted.
use Rattle.std.proofs.Common.{refl, subst}
use Rattle.std.specs.List.{All}
use Rattle.std.proofs.lemmas.Bool.{false≢true}
use Rattle.std.proofs.lemmas.List.{take_all}
use Rattle.std.proofs.lemmas.List.Elements.{All-more}
use Rattle.bspl_types.specs.History.{history_of}
use Rattle.bspl_types.specs.declared.protocol.Adornment.TheVariants.{In}
use Rattle.role_knowledge.specs.Blocked.{IsFirstBlock, IsPermitted}
use Rattle.role_knowledge.proofs.EmissionLemmas.{first_block_at, handed_on, refused_exactly}
use Rattle.role_knowledge.proofs.emission.check_all.Goals as goal

pub returns-in_err-check_param-clause-exact : goal.returns-in_err-check_param-clause-exact
returns-in_err-check_param-clause-exact c =
    refused_exactly _ _ c.from_residual.ensures.0 (λ all. false≢true (c.in_err-check_param.ensures.exact.1 (all c.loop-c.c-index _ c.loop-c-test.true)))

pub returns-in_err-check_param-clause-blocked : goal.returns-in_err-check_param-clause-blocked
returns-in_err-check_param-clause-blocked c =
    let h = history_of c.args.x.now c.args.role c.args.events.now in
    let block = c.in_err-check_param.field-0.0 in
    handed_on c.from_residual.result block (IsFirstBlock c.args.x.now h c.args.key.now c.args.carried.now) c.from_residual.ensures.1
    (first_block_at c.args.x.now h c.args.key.now c.args.carried.now c.loop-c.c-index (record { param = 0; adornment = In }) block c.loop-c-test.true c.loop-c.invariant c.in_err-check_param.ensures.blocked)

pub loop-c-preserved : goal.loop-c-preserved
loop-c-preserved c =
    let h = history_of c.args.x.now c.args.role c.args.events.now in
    All-more (IsPermitted c.args.x.now h c.args.key.now) c.args.carried.now c.loop-c.c-index (record { param = 0; adornment = In }) c.loop-c-test.true c.loop-c.invariant (c.in_ok-check_param.ensures.exact.0 refl)

pub returns-clause-exact : goal.returns-clause-exact
returns-clause-exact c =
    let h = history_of c.args.x.now c.args.role c.args.events.now in
    (λ _. subst (All (IsPermitted c.args.x.now h c.args.key.now)) (take_all c.loop-c.c-index c.args.carried.now c.loop-c-test.false) c.loop-c.invariant, λ _. refl)
