-- One parameter more.
use Rattle.std.proofs.Common.{[], ◌∷◌, ◌∙◌, subst}
use Rattle.clause_encoding.specs.Families.{premise_clause}
use Rattle.clause_core.specs.Written.{AppendsClauses, Written}
use Rattle.clause_encoding.proofs.AppendsLemmas.{appends_item_clause}
use Rattle.clause_encoding.proofs.premises.push_premises_of.Goals as goal

pub loop-param-preserved : goal.loop-param-preserved
loop-param-preserved c =
    let lits = c.as_slice.ensures ∙ c.in_ok-lits.ensures in
    appends_item_clause (premise_clause c.args.x.now c.args.vars c.args.m) _ _ _ c.as_slice-param-items.result.now c.loop-param.param-index 0 c.loop-param-test.true c.loop-param.invariant
    (subst (λ (lits : Written). AppendsClauses c.loop-param.clauses c.push_clause.new.clauses (lits ∷ [])) lits c.in_ok-push_clause.ensures)
