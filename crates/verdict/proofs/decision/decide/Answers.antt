-- The answer to what the search found out is right.
use Rattle.std.proofs.lemmas.Result.{IfOk-weaker}
use Rattle.order_axioms.specs.Formula.{whole}
use Rattle.verdict.specs.Decision.{HasLogInRange, IsDecided, IsProvedByEmptyLog}
use Rattle.verdict.specs.inner.Answer.{IsAnswer, IsAnswered}
use Rattle.verdict.proofs.OutcomeLemmas.{NewLogLaws, decided_in_range, decided_none, decided_right}
use Rattle.verdict.proofs.decision.decide.Goals as goal

pub returns-clause-right : goal.returns-clause-right
returns-clause-right c =
    let x = c.args.a.now in
    let p = c.args.property in
    let f = whole c.in_ok-formula.formula in
    IfOk-weaker c.decide_by.result (IsAnswered f c.args.budget (IsAnswer p x)) (IsDecided p x c.args.budget)
    (λ decision answered. decided_right p x f c.args.budget decision c.in_ok-formula.ensures.exact.is_whole answered) c.decide_by.ensures

pub returns-clause-single : goal.returns-clause-single
returns-clause-single c = λ is_safety one.
    let x = c.args.a.now in
    let p = c.args.property in
    let f = whole c.in_ok-formula.formula in
    let laws : NewLogLaws = record { resolve = c.new_resolves.ensures; counted = c.steps_are_counted.ensures } in
    IfOk-weaker c.decide_by.result (IsAnswered f c.args.budget (IsAnswer p x)) IsProvedByEmptyLog
    (λ decision answered. decided_none laws p x f c.args.budget decision c.requires.some is_safety one c.in_ok-formula.ensures.exact.is_whole answered) c.decide_by.ensures

pub returns-clause-numbers : goal.returns-clause-numbers
returns-clause-numbers c = λ small.
    let x = c.args.a.now in
    let p = c.args.property in
    let f = whole c.in_ok-formula.formula in
    IfOk-weaker c.decide_by.result (IsAnswered f c.args.budget (IsAnswer p x)) HasLogInRange
    (λ decision answered. decided_in_range c.numbers_in_range.ensures c.variables_are_small.ensures.few p x f c.args.budget decision c.in_ok-formula.ensures.few small c.in_ok-formula.ensures.exact.is_whole answered) c.decide_by.ensures
