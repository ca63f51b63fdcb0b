-- One family after the other, and then the last clause.
use Rattle.std.proofs.Common.{◌≡◌, ℕ, ◌+◌, [], ◌∷◌, map, ap, sym, ◌∙◌, subst}
use Rattle.std.specs.List.{enumerate_from}
use Rattle.std.proofs.lemmas.Result.{IfOk-weaker}
use Rattle.clause_encoding.specs.Rest.{arrival_clauses, exhaustion_clauses, unbound_clauses, unbound_variables, want_clauses}
use Rattle.clause_encoding.specs.Variables.{kind_count}
use Rattle.clause_core.specs.Written.{AppendsClauses, Written}
use Rattle.clause_core.specs.Literal.{positive}
use Rattle.clause_encoding.proofs.AppendsLemmas.{appends_both}
use Rattle.clause_encoding.proofs.RangeLemmas.{map_numbers}
use Rattle.clause_encoding.proofs.rest.push_rest_on.Goals as goal

pub returns : goal.returns
returns c =
    let x = c.args.x.now in
    let number = λ (pair : ℕ × ℕ). positive pair.0 in
    let two = appends_both _ _ _ (arrival_clauses x) (exhaustion_clauses x) c.in_ok-push_arrival.ensures c.in_ok-push_exhaustion.ensures in
    let three = appends_both _ _ _ _ (want_clauses x) two c.in_ok-push_wants.ensures in
    let four = appends_both _ _ _ _ (unbound_clauses x) three c.in_ok-push_unbound.ensures in
    let first : c.kind_count-first_value.result + 1 ≡ kind_count x + 1 = ap (λ (n : ℕ). n + 1) c.kind_count-first_value.ensures in
    let last : c.as_slice.result.now ≡ map number (unbound_variables x) =
    c.as_slice.ensures ∙ c.in_ok-lits.ensures ∙ sym (map_numbers positive (c.kind_count-first_value.result + 1) c.args.values.now) ∙ (λ n. map number (enumerate_from (first n) (c.requires.values_are n))) in
    IfOk-weaker c.push_clause.result _ _
    (λ _ appends. appends_both _ _ _ _ (map number (unbound_variables x) ∷ []) four
    (subst (λ (lits : Written). AppendsClauses c.push_unbound.new.clauses c.push_clause.new.clauses (lits ∷ [])) last appends))
    c.push_clause.ensures
