-- A model of the formula satisfies what is written, and a protocol has the property if there is none.
use Rattle.std.proofs.Common.{refl, subst}
use Rattle.clause_core.specs.Assignment.{valuation}
use Rattle.clause_encoding.specs.Formula.{clauses_of}
use Rattle.order_axioms.specs.Formula.{whole}
use Rattle.sat_solver.specs.declared.outcome.Outcome.{Outcome}
use Rattle.verdict.specs.Search.{IsSound}
use Rattle.verdict.proofs.OutcomeLemmas.{model_found}
use Rattle.verdict.proofs.decision.decide_by.Goals as goal

pub refuted-requires-clause-satisfied : goal.refuted-requires-clause-satisfied
refuted-requires-clause-satisfied c =
    let f = whole c.args.formula.now in
    let model = model_found f _ c.in_ok-assignment.field-0 c.in-Sat.assignment c.in-Sat.is c.in_ok-assignment.ensures.right in
    (c.written_is_satisfied.ensures (valuation c.in-Sat.assignment) (clauses_of c.args.property c.args.a.now) f.clauses c.requires.is_formula.clauses).0 model.satisfies

pub returns-in-Unsat : goal.returns-in-Unsat
returns-in-Unsat c =
    let f = whole c.args.formula.now in
    let no_model = subst (λ (o : Outcome). IsSound f o) c.in-Unsat.is c.in_ok-assignment.ensures.sound in
    record {
      outcome = c.in_ok-assignment.field-0;
      is_outcome = c.in_ok-assignment.ensures.right;
      answers = rw c.in-Unsat.is (record {
        is_proved = refl;
        right = c.unsatisfiable_holds.ensures c.args.property c.args.a.now f c.is_admitted.ensures c.requires.is_formula no_model;
      });
    }
