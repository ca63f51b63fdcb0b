-- The clauses of the pairs, and then that of all.
use Rattle.std.proofs.Common.{◌+◌, [], ◌∷◌, ◌∙◌, sym, subst}
use Rattle.std.proofs.lemmas.Result.{IfOk-weaker}
use Rattle.clause_core.specs.Written.{AppendsClauses, Written}
use Rattle.clause_core.specs.Literal.{positive}
use Rattle.clause_encoding.specs.inner.Selection.{selections, selector_lits}
use Rattle.clause_encoding.proofs.AppendsLemmas.{appends_both}
use Rattle.clause_encoding.proofs.RangeLemmas.{map_numbers}
use Rattle.clause_encoding.proofs.selection.push_rivals_on.Goals as goal

pub returns : goal.returns
returns c =
    let kinds = c.args.kinds in
    let rivals = c.args.rivals.now in
    let lits = c.as_slice.ensures ∙ c.in_ok-lits.ensures ∙ sym (map_numbers positive (kinds + 1) rivals) in
    IfOk-weaker c.push_clause.result _ _
    (λ _ last. appends_both _ _ _ (selections kinds rivals) (selector_lits kinds rivals ∷ []) c.in_ok-push_selections.ensures
    (subst (λ (lits : Written). AppendsClauses c.push_selections.new.clauses c.push_clause.new.clauses (lits ∷ [])) lits last))
    c.push_clause.ensures
