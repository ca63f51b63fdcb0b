-- The literals are passed over, or resolved with the reason.
use Rattle.std.proofs.Common.{◌≡◌, true, false, refl, sym, subst, arith, Contains}
use Rattle.sat_solver.proofs.PositionLemmas.{IsAt-trail, reason-clash, reason-some}
use Rattle.sat_solver.proofs.StepLemmas.{StepsOver-pass, StepsOver-resolve, OthersFalse-at}
use Rattle.sat_solver.proofs.analysis.step.Goals as goal

pub returns-then-not-has-clause-steps : goal.returns-then-not-has-clause-steps
returns-then-not-has-clause-steps c =
    let at = IsAt-trail c.args.trail.now c.args.position c.at-lit.result c.is_trail.ensures (omega (arith, c.requires.gathers.resolving.within)) c.at-lit.ensures.literal in
    StepsOver-pass c.args.trail.now c.args.chain.now c.args.lits.now _ c.at-lit.result at c.requires.gathers
    (λ among. (let clash : false ≡ true = c.if-not-has.ensures.1 (subst (Contains c.args.lits.now.set.lits) (sym c.negation-pivot.ensures.exact) among) in cc))

pub clause-requires : goal.clause-requires
clause-requires c =
    let at = IsAt-trail c.args.trail.now c.args.position c.at-lit.result c.is_trail.ensures (omega (arith, c.requires.gathers.resolving.within)) c.at-lit.ensures.literal in
    reason-some c.args.trail.now _ c.in-Some.reason c.at-lit.result at (sym c.in-Some.ensures)

pub resolve-requires-clause-others : goal.resolve-requires-clause-others
resolve-requires-clause-others c =
    let at = IsAt-trail c.args.trail.now c.args.position c.at-lit.result c.is_trail.ensures (omega (arith, c.requires.gathers.resolving.within)) c.at-lit.ensures.literal in
    rw (c.negation-pivot.ensures.exact, c.lits.ensures.same)
    (OthersFalse-at c.args.trail.now _ c.in-Some.reason c.at-lit.result _ at (sym c.in-Some.ensures) c.clause.ensures)

pub returns-in_ok-push-clause-steps : goal.returns-in_ok-push-clause-steps
returns-in_ok-push-clause-steps c =
    let at = IsAt-trail c.args.trail.now c.args.position c.at-lit.result c.is_trail.ensures (omega (arith, c.requires.gathers.resolving.within)) c.at-lit.ensures.literal in
    let resolved = rw (c.negation-pivot.ensures.exact, c.lits.ensures.same) at c.resolve.ensures.resolved in
    rw (c.in_ok-push.ensures.ok, c.negation-pivot.ensures.exact)
    (StepsOver-resolve c.lists_have_clauses.ensures c.args.trail.now c.args.chain.now _ c.args.lits.now c.resolve.new.self _ _ c.in-Some.reason c.at-lit.result at c.requires.gathers (sym c.in-Some.ensures) c.clause.ensures
    (subst (Contains c.args.lits.now.set.lits) c.negation-pivot.ensures.exact (c.if-not-has.ensures.0 refl)) c.resolve.ensures.are_false resolved refl)

pub returns-in_default-clause-steps : goal.returns-in_default-clause-steps
returns-in_default-clause-steps c =
    let at = IsAt-trail c.args.trail.now c.args.position c.at-lit.result c.is_trail.ensures (omega (arith, c.requires.gathers.resolving.within)) c.at-lit.ensures.literal in
    absurd (reason-clash c.args.trail.now c.args.lits.now.set.lits c.args.position c.at-lit.result at c.requires.reason
    (subst (Contains c.args.lits.now.set.lits) c.negation-pivot.ensures.exact (c.if-not-has.ensures.0 refl)) c.in_default.ensures)
