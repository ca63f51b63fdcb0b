-- The run of the assignment, cut at its first moment, is the evidence.
use Rattle.std.proofs.Common.{◌≡◌, List, take, ap, sym, ◌∙◌, subst}
use Rattle.std.proofs.lemmas.Result.{IfOk-weaker}
use Rattle.bspl_types.specs.declared.event.Event.{Event}
use Rattle.clause_core.specs.Assignment.{valuation}
use Rattle.clause_core.specs.Clause.{SatisfiesAll}
use Rattle.clause_encoding.specs.declared.variables.Variables.{Variables}
use Rattle.clause_encoding.specs.Families.{shared_clauses}
use Rattle.clause_encoding.specs.Formula.{plain_variables}
use Rattle.question_answer.specs.Answer.{IsShownPossible}
use Rattle.question_answer.proofs.AnswerLemmas.{cut_shown, is_found_yes}
use Rattle.question_answer.proofs.answering_run.answering_run.Goals as goal

pub order_run-requires-clause-satisfied : goal.order_run-requires-clause-satisfied
order_run-requires-clause-satisfied c =
    let x = c.args.a.now in
    subst (λ (vars : Variables). SatisfiesAll (valuation c.args.assignment.now) (shared_clauses x vars))
    (sym (c.plain_variables.ensures.exact ∙ ap plain_variables c.expanded-x.ensures.same))
    c.requires.model.satisfied

pub unwrap-moment-requires : goal.unwrap-moment-requires
unwrap-moment-requires c =
    is_found_yes c.meeting_model_extends.ensures c.model_run_answers_yes.ensures c.args.a.now c.expanded-x.result.now c.plain_variables.result c.args.q.now c.args.assignment.now c.in_ok-whole.whole c.key_of_ones-key.result c.first_yes.result
    c.expanded-x.ensures.same c.plain_variables.ensures.exact c.key_of_ones-key.ensures c.requires.about c.requires.model c.requires.meets c.in_ok-whole.ensures.run (rw c.as_slice.ensures at c.first_yes.ensures)

pub returns : goal.returns
returns c =
    let x = c.args.a.now in
    let q = c.args.q.now in
    let moment = c.unwrap-moment.result in
    let whole = c.in_ok-whole.whole in
    let found = rw c.as_slice.ensures at c.first_yes.ensures in
    let cut = rw c.as_slice-2.ensures at c.first_events.ensures in
    IfOk-weaker c.first_events.result (λ (run : List Event). run ≡ take moment whole) (IsShownPossible x q)
    (cut_shown c.prefix_is_legal.ensures.run c.shared_model_has_run.ensures.ones c.meeting_model_extends.ensures x c.expanded-x.result.now c.plain_variables.result q c.args.assignment.now whole c.key_of_ones-key.result c.first_yes.result moment
    c.expanded-x.ensures.same c.plain_variables.ensures.exact c.key_of_ones-key.ensures c.requires.about c.requires.model c.requires.meets c.in_ok-whole.ensures.run c.in_ok-whole.ensures.legal c.unwrap-moment.ensures found)
    cut
