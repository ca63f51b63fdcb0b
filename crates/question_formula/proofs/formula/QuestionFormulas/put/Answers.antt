-- The first clauses stay the shared ones, and with those of the condition they are its formula.
use Rattle.std.proofs.Common.{ℕ, ap, sym, ◌∙◌, subst}
use Rattle.std.proofs.lemmas.Result.{on_ok_weaker}
use Rattle.circuit_clauses.specs.Condition.{IsOver, condition_of}
use Rattle.clause_encoding.specs.Formula.{plain_variables}
use Rattle.clause_encoding.specs.Variables.{variable_count}
use Rattle.order_axioms.specs.Formula.{whole}
use Rattle.question_formula.specs.Formula.{IsFormulaOfCondition, ProtocolFormula}
use Rattle.question_formula.proofs.FormulaLemmas.{fits_log, of_condition, still_shared}
use Rattle.question_formula.proofs.formula.QuestionFormulas.put.Goals as goal

pub put_condition-requires : goal.put_condition-requires
put_condition-requires c = record {
  there = c.self.invariant.there;
  exist = c.self.invariant.exist;
  over = subst (λ (n : ℕ). IsOver n (condition_of c.args.c.now)) (sym (c.self.invariant.counted ∙ ap (λ (seen : ProtocolFormula). variable_count (plain_variables seen.protocol)) c.self.view_is)) c.requires;
}

pub invariant_of-self : goal.invariant_of-self
invariant_of-self c =
    let s = c.self.inside in
    still_shared s.protocol.now s.shared s.vars s.formula c.put_condition.new.f c.self.invariant c.put_condition.ensures.kept

pub returns-clause-exact : goal.returns-clause-exact
returns-clause-exact c =
    let s = c.self.inside in
    let condition = condition_of c.args.c.now in
    on_ok_weaker c.put_condition.result
    (λ too. subst (λ (seen : ProtocolFormula). IsFormulaOfCondition seen.protocol condition (whole c.put_condition.new.f)) c.self.view_is
    (of_condition s.protocol.now s.shared s.vars s.formula c.put_condition.new.f condition c.self.invariant c.put_condition.ensures.kept too))
    c.put_condition.ensures.ok

pub returns-clause-fits : goal.returns-clause-fits
returns-clause-fits c =
    let s = c.self.inside in
    on_ok_weaker c.put_condition.result
    (λ too. fits_log s.protocol.now s.shared s.vars s.formula c.put_condition.new.f (condition_of c.args.c.now) c.self.invariant c.put_condition.ensures.kept too)
    c.put_condition.ensures.ok
