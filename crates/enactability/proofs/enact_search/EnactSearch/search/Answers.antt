-- What the search finds is answered by its evidence.
use Rattle.std.proofs.Common.{◌<◌, ◌≤◌, length, subst, sym, arith}
use Rattle.bspl_types.specs.declared.expanded.Expanded.{Expanded}
use Rattle.clause_core.specs.Assignment.{valuation}
use Rattle.clause_core.specs.Clause.{SatisfiesAll}
use Rattle.clause_encoding.specs.Formula.{safety_variables}
use Rattle.clause_encoding.specs.Variables.{variable_count}
use Rattle.order_axioms.specs.Formula.{whole}
use Rattle.verdict.specs.Decision.{IsUndecidedVerdict}
use Rattle.enactability.specs.declared.outcome.Enact.TheVariants.{Dead, Undecided}
use Rattle.enactability.specs.Answer.{IsDead}
use Rattle.enactability.specs.EnactFormula.{IsEnactFormula, enact_clauses}
use Rattle.enactability.proofs.AnswerLemmas.{dead_right, model_right, numbers_right, undecided_right}
use Rattle.enactability.proofs.ClauseLemmas.{formula_few, message_few, sent_too, variable_exists}
use Rattle.enactability.proofs.enact_search.EnactSearch.search.Goals as goal

pub with_sent-requires-clause-few : goal.with_sent-requires-clause-few
with_sent-requires-clause-few c =
    message_few c.self.inside.protocol.now c.args.message (subst (λ (x : Expanded). c.args.message < length x.messages) (sym c.self.view_is) c.requires.known)

pub with_sent-requires-clause-exists : goal.with_sent-requires-clause-exists
with_sent-requires-clause-exists c =
    variable_exists c.self.inside.protocol.now c.args.message (whole c.self.inside.shared) c.self.invariant.shared (subst (λ (x : Expanded). c.args.message < length x.messages) (sym c.self.view_is) c.requires.known)

pub search_model-requires-clause-few : goal.search_model-requires-clause-few
search_model-requires-clause-few c =
    let x = c.self.inside.protocol.now in
    let f = whole c.in_ok-formula.formula in
    let is = sent_too x c.args.message (whole c.self.inside.shared) f c.self.invariant.shared c.in_ok-formula.ensures in
    omega (arith, c.requires.few, formula_few c.clauses_are_as_many.ensures c.enact_clauses_are_few.ensures x c.args.message f is)

pub enact-requires-clause-all : goal.enact-requires-clause-all
enact-requires-clause-all c =
    let x = c.self.inside.protocol.now in
    let f = whole c.in_ok-formula.formula in
    let is = sent_too x c.args.message (whole c.self.inside.shared) f c.self.invariant.shared c.in_ok-formula.ensures in
    let found = rw c.in-Sat.is at c.in_ok-assignment.ensures in
    subst (λ (y : Expanded). variable_count (safety_variables y) ≤ length c.in-Sat.assignment) c.self.view_is
    (model_right x c.args.message f is c.args.budget c.written_is_satisfied.ensures c.in-Sat.assignment found).0

pub enact-requires-clause-satisfied : goal.enact-requires-clause-satisfied
enact-requires-clause-satisfied c =
    let x = c.self.inside.protocol.now in
    let f = whole c.in_ok-formula.formula in
    let is = sent_too x c.args.message (whole c.self.inside.shared) f c.self.invariant.shared c.in_ok-formula.ensures in
    let found = rw c.in-Sat.is at c.in_ok-assignment.ensures in
    subst (λ (y : Expanded). SatisfiesAll (valuation c.in-Sat.assignment) (enact_clauses y c.args.message)) c.self.view_is
    (model_right x c.args.message f is c.args.budget c.written_is_satisfied.ensures c.in-Sat.assignment found).1

pub returns-in-Unsat-clause-right : goal.returns-in-Unsat-clause-right
returns-in-Unsat-clause-right c =
    let x = c.self.inside.protocol.now in
    let f = whole c.in_ok-formula.formula in
    let is = sent_too x c.args.message (whole c.self.inside.shared) f c.self.invariant.shared c.in_ok-formula.ensures in
    let found = rw c.in-Unsat.is at c.in_ok-assignment.ensures in
    subst (λ (y : Expanded). IsDead y c.args.message c.args.budget c.in-Unsat.log) c.self.view_is
    (dead_right x c.args.message f is c.args.budget c.no_model_is_dead.ensures c.in-Unsat.log found)

pub returns-in-Unsat-clause-numbers : goal.returns-in-Unsat-clause-numbers
returns-in-Unsat-clause-numbers c = λ small.
    let x = c.self.inside.protocol.now in
    let f = whole c.in_ok-formula.formula in
    let is = sent_too x c.args.message (whole c.self.inside.shared) f c.self.invariant.shared c.in_ok-formula.ensures in
    let found = rw c.in-Unsat.is at c.in_ok-assignment.ensures in
    numbers_right c.numbers_in_range.ensures c.variables_are_small.ensures.few c.clauses_are_as_many.ensures c.enact_clauses_are_few.ensures x c.args.message c.args.budget (Dead c.in-Unsat.log) small
    (dead_right x c.args.message f is c.args.budget c.no_model_is_dead.ensures c.in-Unsat.log found)

pub returns-clause-right : goal.returns-clause-right
returns-clause-right c =
    let x = c.self.inside.protocol.now in
    let f = whole c.in_ok-formula.formula in
    let is = sent_too x c.args.message (whole c.self.inside.shared) f c.self.invariant.shared c.in_ok-formula.ensures in
    let found = rw c.in-Budget.is at c.in_ok-assignment.ensures in
    subst (λ (y : Expanded). IsUndecidedVerdict (IsEnactFormula y c.args.message) c.args.budget c.in-Budget.log) c.self.view_is
    (undecided_right x c.args.message f is c.args.budget c.in-Budget.log found)

pub returns-clause-numbers : goal.returns-clause-numbers
returns-clause-numbers c = λ small.
    let x = c.self.inside.protocol.now in
    let f = whole c.in_ok-formula.formula in
    let is = sent_too x c.args.message (whole c.self.inside.shared) f c.self.invariant.shared c.in_ok-formula.ensures in
    let found = rw c.in-Budget.is at c.in_ok-assignment.ensures in
    numbers_right c.numbers_in_range.ensures c.variables_are_small.ensures.few c.clauses_are_as_many.ensures c.enact_clauses_are_few.ensures x c.args.message c.args.budget (Undecided c.in-Budget.log) small
    (undecided_right x c.args.message f is c.args.budget c.in-Budget.log found)
