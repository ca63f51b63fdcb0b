-- One message more.
use Rattle.std.proofs.Common.{◌≡◌, [], ◌∷◌, ◌+◌, ◌*◌, ap, ◌∙◌, subst}
use Rattle.clause_core.specs.Literal.{negated}
use Rattle.clause_encoding.specs.Variables.{occurs}
use Rattle.clause_core.specs.Written.{AppendsClauses, Written}
use Rattle.clause_encoding.specs.inner.Implications.{arrival_clause}
use Rattle.clause_encoding.proofs.AppendsLemmas.{appends_message_clause}
use Rattle.clause_encoding.proofs.arrival.push_arrival.Goals as goal

pub loop-m-preserved : goal.loop-m-preserved
loop-m-preserved c =
    let m = c.loop-m.m in
    let first : c.negation.result ≡ negated (occurs (2 * m + 1)) = c.negation.ensures.exact ∙ ap negated (c.positive.ensures ∙ ap occurs c.sent.ensures) in
    let second : c.positive-in-loop-m.result ≡ occurs (2 * m + 2) = c.positive-in-loop-m.ensures ∙ ap occurs c.received.ensures in
    let same : (c.negation.result ∷ c.positive-in-loop-m.result ∷ []) ≡ arrival_clause m = λ n. first n ∷ second n ∷ [] in
    appends_message_clause arrival_clause _ _ _ m c.loop-m.invariant (subst (λ (lits : Written). AppendsClauses c.loop-m.clauses c.push_clause.new.clauses (lits ∷ [])) same c.in_ok-push_clause.ensures)
