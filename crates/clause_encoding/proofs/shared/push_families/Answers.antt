-- One family after the other.
use Rattle.std.proofs.lemmas.Result.{IfOk-weaker}
use Rattle.clause_encoding.specs.Families.{delivery_clauses, freshness_clauses, occurrence_clauses, premise_clauses}
use Rattle.clause_encoding.proofs.AppendsLemmas.{appends_both}
use Rattle.clause_encoding.proofs.shared.push_families.Goals as goal

pub returns : goal.returns
returns c =
    let x = c.args.x.now in
    let vars = c.args.vars in
    let two = appends_both _ _ _ (occurrence_clauses vars) (delivery_clauses x vars) c.in_ok-push_occurrence.ensures c.in_ok-push_delivery.ensures in
    let three = appends_both _ _ _ _ (premise_clauses x vars) two c.in_ok-push_premises.ensures in
    IfOk-weaker c.push_freshness.result _ _ (λ _ last. appends_both _ _ _ _ (freshness_clauses x vars) three last) c.push_freshness.ensures
