-- What the search finds is answered by its evidence.
use Rattle.std.proofs.Common.{sym, ◌∙◌, subst}
use Rattle.bspl_types.specs.declared.expanded.Expanded.{Expanded}
use Rattle.circuit_clauses.specs.Condition.{Condition, IsOver, condition_of}
use Rattle.clause_encoding.specs.Formula.{plain_variables}
use Rattle.clause_encoding.specs.Variables.{variable_count}
use Rattle.order_axioms.specs.declared.ordered_formula.OrderedFormula.{OrderedFormula}
use Rattle.order_axioms.specs.Formula.{whole}
use Rattle.question_formula.specs.Formula.{IsQuestionFormula}
use Rattle.question_formula.specs.Size.{FitsLog}
use Rattle.question_answer.proofs.AnswerLemmas.{formula_lent, left_undecided, model_is_shared, model_meets, refutation_in_range, shown_impossible, undecided_in_range}
use Rattle.question_answer.proofs.question_search.QuestionSearch.search.Goals as goal

pub put-requires : goal.put-requires
put-requires c =
    let condition = condition_of c.args.condition.now in
    subst (λ (y : Expanded). IsOver (variable_count (plain_variables y)) condition) (sym (c.self.invariant.same ∙ c.self.view_is))
    (subst (λ (d : Condition). IsOver (variable_count (plain_variables c.args.self.now)) d) (sym c.requires.condition) (c.condition_variables_exist.ensures c.args.self.now c.args.q.now c.requires.about))

pub answering_run-requires-clause-model : goal.answering_run-requires-clause-model
answering_run-requires-clause-model c =
    let x = c.self.inside.protocol.now in
    let q = c.args.q.now in
    let f = whole c.formula.result.now in
    let is = formula_lent x c.self.inside.formulas.protocol c.args.self.now q (condition_of c.args.condition.now) c.put.new.self.formula c.formula.result.now c.self.invariant.same c.self.view_is c.requires.condition c.in_ok-put.ensures.exact c.formula.ensures in
    model_is_shared x q f c.args.conflicts is c.written_is_satisfied.ensures c.in-Sat.assignment (rw c.in-Sat.is at c.in_ok-assignment.ensures)

pub answering_run-requires-clause-meets : goal.answering_run-requires-clause-meets
answering_run-requires-clause-meets c =
    let x = c.self.inside.protocol.now in
    let q = c.args.q.now in
    let f = whole c.formula.result.now in
    let is = formula_lent x c.self.inside.formulas.protocol c.args.self.now q (condition_of c.args.condition.now) c.put.new.self.formula c.formula.result.now c.self.invariant.same c.self.view_is c.requires.condition c.in_ok-put.ensures.exact c.formula.ensures in
    model_meets x q f c.args.conflicts is c.written_is_satisfied.ensures c.model_meets_condition.ensures c.in-Sat.assignment (rw c.in-Sat.is at c.in_ok-assignment.ensures)

pub keep-requires : goal.keep-requires
keep-requires c =
    let x = c.self.inside.protocol.now in
    let q = c.args.q.now in
    let f = whole c.formula.result.now in
    let is = formula_lent x c.self.inside.formulas.protocol c.args.self.now q (condition_of c.args.condition.now) c.put.new.self.formula c.formula.result.now c.self.invariant.same c.self.view_is c.requires.condition c.in_ok-put.ensures.exact c.formula.ensures in
    model_is_shared x q f c.args.conflicts is c.written_is_satisfied.ensures c.in-Sat.assignment (rw c.in-Sat.is at c.in_ok-assignment.ensures)

pub returns-in-Unsat-clause-right : goal.returns-in-Unsat-clause-right
returns-in-Unsat-clause-right c =
    let x = c.self.inside.protocol.now in
    let q = c.args.q.now in
    let f = whole c.formula.result.now in
    let is_inside = formula_lent x c.self.inside.formulas.protocol c.args.self.now q (condition_of c.args.condition.now) c.put.new.self.formula c.formula.result.now c.self.invariant.same c.self.view_is c.requires.condition c.in_ok-put.ensures.exact c.formula.ensures in
    let z = c.args.self.now in
    let is = subst (λ (y : Expanded). IsQuestionFormula y q f) c.self.view_is is_inside in
    shown_impossible z q f c.args.conflicts is c.impossible_without_model.ensures c.requires.about c.in-Unsat.log (rw c.in-Unsat.is at c.in_ok-assignment.ensures)

pub returns-in-Unsat-clause-numbers : goal.returns-in-Unsat-clause-numbers
returns-in-Unsat-clause-numbers c =
    let x = c.self.inside.protocol.now in
    let q = c.args.q.now in
    let f = whole c.formula.result.now in
    let is = formula_lent x c.self.inside.formulas.protocol c.args.self.now q (condition_of c.args.condition.now) c.put.new.self.formula c.formula.result.now c.self.invariant.same c.self.view_is c.requires.condition c.in_ok-put.ensures.exact c.formula.ensures in
    refutation_in_range x q f c.args.conflicts is c.numbers_in_range.ensures (subst (λ (g : OrderedFormula). FitsLog (whole g)) (sym c.formula.ensures) c.in_ok-put.ensures.fits) c.requires.few c.in-Unsat.log
    (rw c.in-Unsat.is at c.in_ok-assignment.ensures)

pub returns-in-Budget-clause-right : goal.returns-in-Budget-clause-right
returns-in-Budget-clause-right c =
    let x = c.self.inside.protocol.now in
    let q = c.args.q.now in
    let f = whole c.formula.result.now in
    let is_inside = formula_lent x c.self.inside.formulas.protocol c.args.self.now q (condition_of c.args.condition.now) c.put.new.self.formula c.formula.result.now c.self.invariant.same c.self.view_is c.requires.condition c.in_ok-put.ensures.exact c.formula.ensures in
    let z = c.args.self.now in
    let is = subst (λ (y : Expanded). IsQuestionFormula y q f) c.self.view_is is_inside in
    left_undecided z q f c.args.conflicts is c.in-Budget.log (rw c.in-Budget.is at c.in_ok-assignment.ensures)

pub returns-in-Budget-clause-numbers : goal.returns-in-Budget-clause-numbers
returns-in-Budget-clause-numbers c =
    let x = c.self.inside.protocol.now in
    let q = c.args.q.now in
    let f = whole c.formula.result.now in
    let is = formula_lent x c.self.inside.formulas.protocol c.args.self.now q (condition_of c.args.condition.now) c.put.new.self.formula c.formula.result.now c.self.invariant.same c.self.view_is c.requires.condition c.in_ok-put.ensures.exact c.formula.ensures in
    undecided_in_range x q f c.args.conflicts is c.numbers_in_range.ensures (subst (λ (g : OrderedFormula). FitsLog (whole g)) (sym c.formula.ensures) c.in_ok-put.ensures.fits) c.requires.few c.in-Budget.log
    (rw c.in-Budget.is at c.in_ok-assignment.ensures)
