-- What the search finds is answered by its evidence.
use Rattle.std.proofs.Common.{◌≡◌, ℕ, ◌≤◌, Option, Some, Bool, List, take, sym, ap, ◌∙◌, subst, arith, All}
use Rattle.std.specs.Prelude.{IsSome}
use Rattle.std.proofs.lemmas.List.Elements.{All-take}
use Rattle.list_base.proofs.Membership.{all_prefix}
use Rattle.bspl_types.specs.declared.event.Event.{Event}
use Rattle.bspl_types.specs.declared.expanded.Expanded.{Expanded}
use Rattle.bspl_types.specs.declared.value.Value.{Value}
use Rattle.bspl_types.specs.History.{instance_of}
use Rattle.circuit_clauses.specs.Condition.{Condition}
use Rattle.clause_core.specs.declared.formula.Formula.{Formula}
use Rattle.clause_core.specs.Assignment.{valuation}
use Rattle.clause_core.specs.Clause.{Satisfies, SatisfiesAll}
use Rattle.clause_encoding.specs.declared.variables.Variables.{Variables}
use Rattle.clause_encoding.specs.Families.{shared_clauses}
use Rattle.clause_encoding.specs.Formula.{plain_variables}
use Rattle.clause_encoding.specs.Laws.{WrittenIsSatisfied}
use Rattle.enactment_model.specs.Laws.{PrefixIsLegalRun}
use Rattle.enactment_model.specs.Legal.{IsLegalRun}
use Rattle.order_axioms.specs.declared.ordered_formula.OrderedFormula.{OrderedFormula}
use Rattle.order_axioms.specs.Formula.{whole}
use Rattle.question_formula.specs.Formula.{IsFormulaOfCondition, IsQuestionFormula, question_clauses, question_condition}
use Rattle.question_formula.specs.Laws.{AnswersYes, ImpossibleWithoutModel, MeetingModelExtends, ModelMeetsCondition, ModelRunAnswersYes}
use Rattle.question_formula.specs.Size.{FitsLog}
use Rattle.questions.specs.declared.question.Question.{Question}
use Rattle.questions.specs.Answer.{IsAnsweredYes}
use Rattle.questions.specs.Subject.{IsAbout}
use Rattle.refutation_log.specs.declared.refutation.Log.{Log}
use Rattle.refutation_log.specs.LogText.{LogInRange}
use Rattle.sat_solver.specs.declared.outcome.Outcome.TheVariants.{Budget, Sat, Unsat}
use Rattle.sat_solver.specs.Outcome.{IsModel}
use Rattle.verdict.specs.Decision.{IsUndecidedVerdict}
use Rattle.verdict.specs.Numbers.{NumbersInRange}
use Rattle.verdict.specs.Search.{IsFound}
use Rattle.witness_replay.specs.Laws.{RunIsUnderOnes}
use Rattle.witness_replay.specs.Witness.{IsRunOfAssignment, key_of_ones}
use Rattle.question_answer.specs.Answer.{IsShownImpossible, IsShownPossible}
use Rattle.question_answer.specs.inner.Models.{IsSharedModel, MeetsQuestion}
use Rattle.question_answer.specs.inner.Moment.{IsFirstMoment}
use Rattle.question_answer.proofs.MomentLemmas.{IsFoundIn, some_found, the_moment}

-- the event is under the key of ones
abbrev pub HasOnes : Expanded → Event → Type 0
HasOnes x e = (instance_of e).key ≡ key_of_ones x

-- the run of a model, cut at the first moment at which the answer is yes
pub shown_possible : PrefixIsLegalRun → RunIsUnderOnes → (x : Expanded) (q : Question) (v : ℕ → Bool) (whole run : List Event) (moment : ℕ) → SatisfiesAll v (question_clauses x q) → IsRunOfAssignment x (plain_variables x) v whole → IsLegalRun x whole → IsFirstMoment x whole (key_of_ones x) q moment → run ≡ take moment whole → IsShownPossible x q run
shown_possible prefix under x q v whole run moment satisfied run_of legal first cut =
    let answered = subst (λ (es : List Event). IsAnsweredYes x es (key_of_ones x) q) (sym cut) first.yes in
    let legal_cut = subst (λ (es : List Event). IsLegalRun x es) (sym cut) (prefix x whole moment legal) in
    let ones = subst (λ (es : List Event). All (HasOnes x) es) (sym cut) (All-take (HasOnes x) moment whole (under x run_of.kinds whole run_of.run_of)) in
    record {
      assignment = v;
      satisfied = satisfied;
      answering = record { whole = whole; run_of = run_of; cut = record { moment = moment; cut = cut; yes = answered; not_before = first.not_before }; ones = ones };
      legal = legal_cut;
      possible = record { run = run; legal = legal_cut; key = key_of_ones x; yes = answered };
    }

-- the run of an assignment that meets the condition gives the answer yes at its end
pub run_answers : MeetingModelExtends → ModelRunAnswersYes → (x : Expanded) (q : Question) (assignment : List Bool) (run : List Event) → IsAbout x q → IsSharedModel x assignment → MeetsQuestion x q assignment → IsRunOfAssignment x (plain_variables x) (valuation assignment) run → AnswersYes x q run
run_answers extends answers x q assignment run about model meets run_of =
    let (w, satisfied, runs) = extends x q (valuation assignment) about model.satisfied meets in
    answers x q w run about satisfied (runs run run_of)

-- so a first moment is found in it
pub is_found_yes : MeetingModelExtends → ModelRunAnswersYes → (x y : Expanded) (vars : Variables) (q : Question) (assignment : List Bool) (whole : List Event) (key : List Value) (found : Option ℕ) → y ≡ x → vars ≡ plain_variables y → key ≡ key_of_ones y → IsAbout x q → IsSharedModel x assignment → MeetsQuestion x q assignment → IsRunOfAssignment x vars (valuation assignment) whole → IsFoundIn y whole key q found → IsSome found
is_found_yes extends answers x y vars q assignment whole key found same are ones about model meets run_of is_found =
    let plain : vars ≡ plain_variables x = are ∙ ap plain_variables same in
    let run_of_plain = subst (λ (us : Variables). IsRunOfAssignment x us (valuation assignment) whole) plain run_of in
    let answered = (run_answers extends answers x q assignment whole about model meets run_of_plain).yes in
    let found_at = subst (λ (k : List Value). IsFoundIn y whole k q found) ones is_found in
    let found_of = subst (λ (z : Expanded). IsFoundIn z whole (key_of_ones z) q found) same found_at in
    some_found x whole (key_of_ones x) q found answered found_of

-- and what the cut gives of it is the evidence, where the answer was found yes at the end of the whole run
pub cut_shown : PrefixIsLegalRun → RunIsUnderOnes → MeetingModelExtends → (x y : Expanded) (vars : Variables) (q : Question) (assignment : List Bool) (whole : List Event) (key : List Value) (found : Option ℕ) (moment : ℕ) → y ≡ x → vars ≡ plain_variables y → key ≡ key_of_ones y → IsAbout x q → IsSharedModel x assignment → MeetsQuestion x q assignment → IsRunOfAssignment x vars (valuation assignment) whole → IsLegalRun x whole → found ≡ Some moment → IsFoundIn y whole key q found → (run : List Event) → run ≡ take moment whole → IsShownPossible x q run
cut_shown prefix under extends x y vars q assignment whole key found moment same are ones about model meets run_of legal is is_found run cut =
    let plain : vars ≡ plain_variables x = are ∙ ap plain_variables same in
    let run_of_plain = subst (λ (us : Variables). IsRunOfAssignment x us (valuation assignment) whole) plain run_of in
    let (w, satisfied, runs) = extends x q (valuation assignment) about model.satisfied meets in
    let first = the_moment y whole key q found moment is is_found in
    let first_at = subst (λ (k : List Value). IsFirstMoment y whole k q moment) ones first in
    let first_of = subst (λ (z : Expanded). IsFirstMoment z whole (key_of_ones z) q moment) same first_at in
    shown_possible prefix under x q w whole run moment satisfied (runs whole run_of_plain) legal first_of cut

-- what satisfies the clauses of a question satisfies those that all questions share
shared_part : (x : Expanded) (q : Question) (v : ℕ → Bool) → SatisfiesAll v (question_clauses x q) → SatisfiesAll v (shared_clauses x (plain_variables x))
shared_part x q v satisfied = all_prefix (Satisfies v) (shared_clauses x (plain_variables x)) _ satisfied

-- what is lent of the formula of the condition is the formula of the question, by other names of the protocol
pub formula_lent : (x y z : Expanded) (q : Question) (c : Condition) (f lent : OrderedFormula) → y ≡ x → x ≡ z → c ≡ question_condition z q → IsFormulaOfCondition y c (whole f) → lent ≡ f → IsQuestionFormula x q (whole lent)
formula_lent x y z q c f lent same seen is put from =
    let of = subst (λ (protocol : Expanded). IsFormulaOfCondition protocol c (whole f)) same put in
    subst (λ (g : OrderedFormula). IsQuestionFormula x q (whole g)) (sym from) (of q (is ∙ ap (λ (protocol : Expanded). question_condition protocol q) (sym seen)))

module _ (x : Expanded) (q : Question) (f : Formula) (budget : ℕ) (is : IsQuestionFormula x q f) where
  -- a refutation
  pub shown_impossible : ImpossibleWithoutModel → IsAbout x q → (log : Log) → IsFound f budget (Unsat log) → IsShownImpossible x q budget log
  shown_impossible law about log found =
      let right = found.right in
      record { formula = f; is_formula = is; accepts = right.accepted; new = right.new; within = right.within; impossible = law x q f about is found.sound }

  -- the budget's end
  pub left_undecided : (log : Log) → IsFound f budget (Budget log) → IsUndecidedVerdict (IsQuestionFormula x q) budget log
  left_undecided log found =
      let right = found.right in
      record { formula = f; is_formula = is; new = right.new; exact = right.spent; derived = right.derived; resolves = right.resolves; none = right.no_empty }

  -- a model
  model_satisfies : WrittenIsSatisfied → (assignment : List Bool) → IsFound f budget (Sat assignment) → SatisfiesAll (valuation assignment) (question_clauses x q)
  model_satisfies written assignment found =
      let model : IsModel f assignment = found.right in
      (written (valuation assignment) (question_clauses x q) f.clauses is.clauses).0 model.satisfies

  pub model_is_shared : WrittenIsSatisfied → (assignment : List Bool) → IsFound f budget (Sat assignment) → IsSharedModel x assignment
  model_is_shared written assignment found =
      let model : IsModel f assignment = found.right in
      record { has_all = omega (arith, model.whole, is.vars); satisfied = shared_part x q (valuation assignment) (model_satisfies written assignment found) }

  pub model_meets : WrittenIsSatisfied → ModelMeetsCondition → (assignment : List Bool) → IsFound f budget (Sat assignment) → MeetsQuestion x q assignment
  model_meets written meets assignment found = meets x q (valuation assignment) (model_satisfies written assignment found)

  -- the numbers of a log are in range
  module _ (numbers : NumbersInRange) (fits : FitsLog f) (small : budget ≤ 1000000) where
    pub refutation_in_range : (log : Log) → IsFound f budget (Unsat log) → LogInRange log
    refutation_in_range log found =
        let right = found.right in
        numbers f log right.accepted.derived right.accepted.resolves (omega (arith, small, right.within, fits.few_clauses)) (omega (arith, fits.few_variables))

    pub undecided_in_range : (log : Log) → IsFound f budget (Budget log) → LogInRange log
    undecided_in_range log found =
        let right = found.right in
        numbers f log right.derived right.resolves (omega (arith, small, right.spent, fits.few_clauses)) (omega (arith, fits.few_variables))
