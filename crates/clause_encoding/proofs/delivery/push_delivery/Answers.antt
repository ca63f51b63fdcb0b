-- One message more.
use Rattle.std.proofs.Common.{◌≡◌, [], ◌∷◌, ◌+◌, ◌*◌, ap, ◌∙◌, subst}
use Rattle.clause_core.specs.Literal.{negated}
use Rattle.clause_encoding.specs.Variables.{occurs, stands_before}
use Rattle.clause_core.specs.Written.{AppendsClauses, Written}
use Rattle.clause_encoding.specs.inner.Implications.{delivery_clause}
use Rattle.clause_encoding.proofs.AppendsLemmas.{appends_message_clause}
use Rattle.clause_encoding.proofs.delivery.push_delivery.Goals as goal

pub loop-m-preserved : goal.loop-m-preserved
loop-m-preserved c =
    let clause = delivery_clause c.args.vars in
    let m = c.loop-m.m in
    let first : c.negation.result ≡ negated (occurs (2 * m + 2)) = c.negation.ensures.exact ∙ ap negated (c.occurs.ensures ∙ ap occurs c.received.ensures) in
    let second : c.before-in-loop-m.result ≡ stands_before c.args.vars (2 * m + 1) (2 * m + 2) = c.before-in-loop-m.ensures ∙ (λ n. stands_before c.args.vars (c.sent.ensures n) (c.received-in-loop-m.ensures n)) in
    let same : (c.negation.result ∷ c.before-in-loop-m.result ∷ []) ≡ clause m = λ n. first n ∷ second n ∷ [] in
    appends_message_clause clause _ _ _ m c.loop-m.invariant (subst (λ (lits : Written). AppendsClauses c.loop-m.clauses c.push_clause.new.clauses (lits ∷ [])) same c.in_ok-push_clause.ensures)
