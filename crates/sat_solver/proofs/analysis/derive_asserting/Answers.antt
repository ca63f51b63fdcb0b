-- Each step leaves a literal of the current level, the last one leaves one alone, and so it stays.
use Rattle.std.proofs.Common.{arith}
use Rattle.std.proofs.lemmas.Result.{IfOk-weaker}
use Rattle.sat_solver.specs.inner.Analysis.{IsLearned}
use Rattle.sat_solver.specs.inner.Gathered.{IsDerivationOf}
use Rattle.sat_solver.proofs.UipLemmas.{HasCurrent-start, HasReason-last, Gathers-at, Gathers-after, HasCurrent-after, gathered-some}
use Rattle.sat_solver.proofs.ShorteningLemmas.{Asserts-gathered, IsLearned-asserts}
use Rattle.sat_solver.proofs.analysis.derive_asserting.Goals as goal

pub resolving-init : goal.resolving-init
resolving-init c =
    let gathers = rw (← c.len-position.ensures.count) at c.start-chain.ensures.gathers in record {
      gathers = gathers;
      current = HasCurrent-start c.args.trail.now c.args.number _ c.start-chain.result c.start-chain.new.lits c.is_trail.ensures c.requires.above c.requires.falsified c.start-chain.ensures.none gathers;
    }

pub overflow_sub-position : goal.overflow_sub-position
overflow_sub-position c = gathered-some c.args.trail.now c.args.number _ _ c.resolving.lits c.resolving-test.true c.resolving.invariant.gathers

pub step-requires-clause-gathers : goal.step-requires-clause-gathers
step-requires-clause-gathers c =
    let some = gathered-some c.args.trail.now c.args.number _ _ c.resolving.lits c.resolving-test.true c.resolving.invariant.gathers in
    Gathers-at c.args.trail.now c.args.number c.resolving.position _ _ c.resolving.lits (omega (arith, some)) c.resolving.invariant.gathers

pub step-requires-clause-reason : goal.step-requires-clause-reason
step-requires-clause-reason c =
    HasReason-last c.args.trail.now c.args.number _ c.resolving.chain c.resolving.lits c.is_trail.ensures c.resolving-test.true c.resolving.invariant.gathers

pub resolving-smaller : goal.resolving-smaller
resolving-smaller c =
    let some = gathered-some c.args.trail.now c.args.number _ _ c.resolving.lits c.resolving-test.true c.resolving.invariant.gathers in
    omega (arith, some)

pub resolving-preserved : goal.resolving-preserved
resolving-preserved c = record {
  gathers = Gathers-after c.args.trail.now c.args.number _ _ c.resolving.chain c.step.new.chain c.resolving.lits c.step.new.lits c.resolving.invariant.gathers c.in_ok-step.ensures.steps;
  current = HasCurrent-after c.args.trail.now c.args.number _ c.resolving.chain c.step.new.chain c.resolving.lits c.step.new.lits c.resolving-test.true c.resolving.invariant.gathers c.in_ok-step.ensures.steps;
}

pub shorten-requires : goal.shorten-requires
shorten-requires c = record {
  asserts = Asserts-gathered c.args.trail.now c.args.number c.resolving.chain c.resolving.lits _ c.is_trail.ensures c.requires.above c.requires.falsified c.resolving.invariant.gathers c.resolving.invariant.current c.resolving-test.false;
}

pub returns-clause-learned : goal.returns-clause-learned
returns-clause-learned c =
    let of_lits = rw c.as_slice.ensures.same at c.derived.ensures in
    IfOk-weaker c.derived.result (IsDerivationOf c.shorten.new.chain c.shorten.new.lits.set.lits) (λ d. IsLearned c.args.trail.now d.chain d.clause)
    (IsLearned-asserts c.equal_members.ensures c.args.trail.now c.shorten.new.chain c.shorten.new.lits c.in_ok-shorten.ensures.asserts)
    of_lits
