-- The condition that is put is that of the question.
use Rattle.std.proofs.Common.{sym, subst}
use Rattle.bspl_types.specs.declared.expanded.Expanded.{Expanded}
use Rattle.circuit_clauses.specs.Condition.{Condition, IsOver, condition_of}
use Rattle.clause_encoding.specs.Formula.{plain_variables}
use Rattle.clause_encoding.specs.Variables.{variable_count}
use Rattle.order_axioms.specs.declared.ordered_formula.OrderedFormula.{OrderedFormula}
use Rattle.order_axioms.specs.Formula.{whole}
use Rattle.question_formula.specs.Formula.{IsFormulaOfCondition, IsQuestionFormula}
use Rattle.question_formula.proofs.FormulaLemmas.{question_of_circuit}
use Rattle.question_formula.proofs.formula.question_formula.Goals as goal

pub put-requires : goal.put-requires
put-requires c =
    let x = c.args.a.now in
    let q = c.args.q.now in
    let condition = condition_of c.in_ok-circuit.circuit in
    let is = question_of_circuit x c.expanded-x.result.now q condition c.plain_variables.result c.expanded-x.ensures.same c.plain_variables.ensures.exact c.in_ok-circuit.ensures in
    subst (λ (y : Expanded). IsOver (variable_count (plain_variables y)) condition) (sym c.in_ok-formulas.ensures.protocol)
    (subst (λ (d : Condition). IsOver (variable_count (plain_variables x)) d) (sym is) (c.condition_variables_exist.ensures x q c.requires))

pub returns-clause-exact : goal.returns-clause-exact
returns-clause-exact c =
    let x = c.args.a.now in
    let q = c.args.q.now in
    let condition = condition_of c.in_ok-circuit.circuit in
    let is = question_of_circuit x c.expanded-x.result.now q condition c.plain_variables.result c.expanded-x.ensures.same c.plain_variables.ensures.exact c.in_ok-circuit.ensures in
    let of = subst (λ (y : Expanded). IsFormulaOfCondition y condition (whole c.put.new.self.formula)) c.in_ok-formulas.ensures.protocol c.in_ok-put.ensures.exact in
    subst (λ (f : OrderedFormula). IsQuestionFormula x q (whole f)) (sym c.into_formula.ensures) (of q is)
