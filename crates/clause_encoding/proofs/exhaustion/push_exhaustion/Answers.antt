-- One message more.
use Rattle.std.proofs.Common.{[], ◌∷◌, ◌∙◌, subst}
use Rattle.clause_encoding.specs.Rest.{exhaustion_clause}
use Rattle.clause_core.specs.Written.{AppendsClauses, Written}
use Rattle.clause_encoding.proofs.AppendsLemmas.{appends_message_clause}
use Rattle.clause_encoding.proofs.exhaustion.push_exhaustion.Goals as goal

pub loop-m-preserved : goal.loop-m-preserved
loop-m-preserved c =
    let lits = c.as_slice.ensures ∙ c.in_ok-lits.ensures in
    appends_message_clause (exhaustion_clause c.args.x.now) _ _ _ c.loop-m.m c.loop-m.invariant
    (subst (λ (lits : Written). AppendsClauses c.loop-m.clauses c.push_clause.new.clauses (lits ∷ [])) lits c.in_ok-push_clause.ensures)
