-- The literal is in and of a lower level, and so are the others of its reason.
use Rattle.std.proofs.Common.{◌≡◌, true, false, refl, sym, ◌∙◌}
use Rattle.sat_solver.proofs.CurrentLemmas.{true-current}
use Rattle.sat_solver.proofs.ShorteningLemmas.{false-among, reason-false, OthersFalse-reason, Asserts-shorter}
use Rattle.sat_solver.proofs.analysis.resolve_away.Goals as goal

pub clause-clause-requires : goal.clause-clause-requires
clause-clause-requires c =
    reason-false c.args.trail.now c.args.lit c.in-Some.reason c.is_trail.ensures
    (false-among c.args.trail.now c.args.lits.now c.args.lit c.requires.asserts.are_false (c.has.ensures.0 c.if-not-has.false)) (sym c.in-Some.ensures)

pub resolve-requires-clause-others : goal.resolve-requires-clause-others
resolve-requires-clause-others c = rw c.lits-2.ensures.same
    (OthersFalse-reason c.args.trail.now c.args.lit c.in-Some.reason _ c.is_trail.ensures
    (false-among c.args.trail.now c.args.lits.now c.args.lit c.requires.asserts.are_false (c.has.ensures.0 c.if-not-has.false)) (sym c.in-Some.ensures) c.clause-clause.ensures)

pub returns-clause-asserts : goal.returns-clause-asserts
returns-clause-asserts c =
    let lower = rw (c.lits.ensures.same, c.negation.ensures.exact) at (c.others_are_lower.ensures.0 c.if-not-others_are_lower.false) in
    let resolved = rw c.lits-2.ensures.same at c.resolve.ensures.resolved in
    rw c.in_ok-push.ensures.ok
    (Asserts-shorter c.lists_have_clauses.ensures c.args.trail.now c.args.chain.now _ c.args.lits.now c.resolve.new.self _ c.args.lit c.in-Some.reason c.is_trail.ensures c.requires.asserts (c.has.ensures.0 c.if-not-has.false)
    (λ current. (let clash : false ≡ true = sym c.if-is_current.false ∙ c.is_current.ensures ∙ true-current c.args.trail.now c.args.lit current in cc))
    (sym c.in-Some.ensures) c.clause-clause.ensures lower c.resolve.ensures.are_false resolved refl)
