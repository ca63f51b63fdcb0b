-- The run of the model, cut so, is the evidence.
use Rattle.std.proofs.Common.{◌<◌, length, refl, subst, sym}
use Rattle.std.proofs.lemmas.List.Elements.{All-push}
use Rattle.list_base.proofs.Membership.{all_prefix}
use Rattle.bspl_types.specs.declared.expanded.Expanded.{Expanded}
use Rattle.clause_core.specs.Assignment.{valuation}
use Rattle.clause_core.specs.Clause.{Satisfies, SatisfiesAll}
use Rattle.clause_encoding.specs.Families.{shared_clauses}
use Rattle.clause_encoding.specs.Formula.{safety_variables}
use Rattle.enactability.specs.Answer.{IsEnacted}
use Rattle.enactability.specs.EnactFormula.{enact_clauses, sent_clause}
use Rattle.enactability.specs.inner.Search.{IsModelRun}
use Rattle.enactability.proofs.AnswerLemmas.{found_cut, model_emits, some_cut}
use Rattle.enactability.proofs.enact_search.EnactSearch.enact.Goals as goal

pub model_run-requires-clause-satisfied : goal.model_run-requires-clause-satisfied
model_run-requires-clause-satisfied c =
    let x = c.self.inside.protocol.now in
    let v = valuation c.args.assignment.now in
    let all = subst (λ (y : Expanded). SatisfiesAll v (enact_clauses y c.args.message)) (sym c.self.view_is) c.requires.satisfied in
    all_prefix (Satisfies v) (shared_clauses x (safety_variables x)) (sent_clause c.args.message) all

pub unwrap-run-requires : goal.unwrap-run-requires
unwrap-run-requires c =
    let x = c.self.inside.protocol.now in
    let m = c.args.message in
    let v = valuation c.args.assignment.now in
    let whole = c.in_ok-whole.whole in
    let all = subst (λ (y : Expanded). SatisfiesAll v (enact_clauses y m)) (sym c.self.view_is) c.requires.satisfied in
    let known = subst (λ (y : Expanded). m < length y.messages) (sym c.self.view_is) c.requires.known in
    some_cut m whole c.in_ok-cut_of.field-0 (model_emits x m v whole c.in_ok-whole.ensures.run known all) (rw c.as_slice.ensures at c.in_ok-cut_of.ensures)

pub invariant_of-self-2 : goal.invariant_of-self-2
invariant_of-self-2 c =
    let x = c.self.inside.protocol.now in
    let m = c.args.message in
    let v = valuation c.args.assignment.now in
    let whole = c.in_ok-whole.whole in
    let all = subst (λ (y : Expanded). SatisfiesAll v (enact_clauses y m)) (sym c.self.view_is) c.requires.satisfied in
    let shared = all_prefix (Satisfies v) (shared_clauses x (safety_variables x)) (sent_clause m) all in
    let model : IsModelRun x whole = record { assignment = v; satisfied = shared; run_of = c.in_ok-whole.ensures.run; legal = c.in_ok-whole.ensures.legal } in
    record {
      shared = c.self.invariant.shared;
      runs = rw c.in_ok-push.ensures.ok (All-push (IsModelRun x) c.self.inside.runs whole c.self.invariant.runs model);
    }

pub returns-clause-right : goal.returns-clause-right
returns-clause-right c =
    let x = c.self.inside.protocol.now in
    let m = c.args.message in
    let v = valuation c.args.assignment.now in
    let whole = c.in_ok-whole.whole in
    let run = c.unwrap-run.result in
    let all = subst (λ (y : Expanded). SatisfiesAll v (enact_clauses y m)) (sym c.self.view_is) c.requires.satisfied in
    let shared = all_prefix (Satisfies v) (shared_clauses x (safety_variables x)) (sent_clause m) all in
    let model : IsModelRun x whole = record { assignment = v; satisfied = shared; run_of = c.in_ok-whole.ensures.run; legal = c.in_ok-whole.ensures.legal } in
    let is_cut = found_cut m whole run c.in_ok-cut_of.field-0 c.unwrap-run.ensures (rw c.as_slice.ensures at c.in_ok-cut_of.ensures) in
    record {
      run = run;
      is_enacted = refl;
      right = subst (λ (y : Expanded). IsEnacted y m run) c.self.view_is (c.cut_enacts.ensures x m whole run model is_cut);
    }
