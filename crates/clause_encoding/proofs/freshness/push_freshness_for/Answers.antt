-- One kind more.
use Rattle.std.proofs.Common.{◌≡◌, ◌+◌, ◌*◌, [], ◌∷◌, get_or, ap, ◌∙◌, subst}
use Rattle.clause_core.specs.Literal.{negated}
use Rattle.clause_encoding.specs.Variables.{occurs, stands_before}
use Rattle.clause_core.specs.Written.{AppendsClauses, Written}
use Rattle.clause_encoding.specs.inner.Implications.{fresh_clause}
use Rattle.clause_encoding.proofs.AppendsLemmas.{appends_item_clause}
use Rattle.clause_encoding.proofs.freshness.push_freshness_for.Goals as goal

pub loop-carrier-preserved : goal.loop-carrier-preserved
loop-carrier-preserved c =
    let vars = c.args.vars in
    let carriers = c.as_slice-carrier-items.result.now in
    let kind = get_or carriers c.loop-carrier.carrier-index 0 in
    let clause = fresh_clause vars c.args.m in
    let first : c.negation.result ≡ negated (occurs (2 * c.args.m + 1)) = c.negation.ensures.exact ∙ ap negated (c.occurs.ensures ∙ ap occurs c.sent-emission.ensures) in
    let second : c.negation-in-loop-carrier.result ≡ negated (stands_before vars kind (2 * c.args.m + 1)) =
    c.negation-in-loop-carrier.ensures.exact ∙ ap negated (c.before-in-loop-carrier.ensures ∙ ap (stands_before vars kind) c.sent-emission.ensures) in
    let same : (c.negation.result ∷ c.negation-in-loop-carrier.result ∷ []) ≡ clause kind = λ n. first n ∷ second n ∷ [] in
    appends_item_clause clause _ _ _ carriers c.loop-carrier.carrier-index 0 c.loop-carrier-test.true c.loop-carrier.invariant
    (subst (λ (lits : Written). AppendsClauses c.loop-carrier.clauses c.push_clause.new.clauses (lits ∷ [])) same c.in_ok-push_clause.ensures)
