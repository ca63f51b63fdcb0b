-- A question is possible exactly if its clauses have a model.
use Rattle.std.proofs.Common.{inl, ℕ, ◌+◌, ◌<◌, ◌≤◌, Bool, false, List, [], ◌++◌, refl, ◌∙◌, arith, All, Contains}
use Rattle.std.specs.Prelude.{nat_lt}
use Rattle.std.proofs.lemmas.Bool.{cond_both, ltb-false}
use Rattle.std.proofs.lemmas.List.Elements.{All-append, All-contains, All-contains_itself, All-weaker, Contains-append_right}
use Rattle.list_base.proofs.Membership.{all_prefix}
use Rattle.bspl_types.specs.declared.event.Event.{Event}
use Rattle.bspl_types.specs.declared.expanded.Expanded.{Expanded}
use Rattle.bspl_types.specs.declared.value.Value.{Value}
use Rattle.circuit_clauses.specs.Asserted.{asserted, asserted_count}
use Rattle.circuit_clauses.specs.Laws.{AssertedIsMet, DiffersWithin, MetIsAsserted}
use Rattle.clause_core.specs.Clause.{Satisfies, SatisfiesAll}
use Rattle.clause_core.specs.Literal.{negated, positive}
use Rattle.clause_core.specs.Written.{Written}
use Rattle.clause_encoding.specs.declared.variables.Variables.{Variables}
use Rattle.clause_encoding.specs.Families.{shared_clauses}
use Rattle.clause_encoding.specs.Formula.{plain_variables}
use Rattle.clause_encoding.specs.Laws.{OrderVariablesExist, WrittenIsSatisfied}
use Rattle.clause_encoding.specs.Variables.{IsKind, order_variable, variable_count}
use Rattle.enactment_model.specs.Legal.{IsLegalRun}
use Rattle.first_occurrences.specs.Laws.{AssignmentExists, HasModel, SharedClausesHold}
use Rattle.first_occurrences.specs.Report.{AreVariablesOf, Reports}
use Rattle.first_occurrences.specs.Shown.{ReportsShow}
use Rattle.questions.specs.declared.question.Question.{Question}
use Rattle.questions.specs.Answer.{IsAnsweredYes, IsPossible}
use Rattle.questions.specs.Subject.{IsAbout}
use Rattle.witness_replay.specs.Laws.{ModelShows, RunOfModelIsLegal, SharedModelHasRun}
use Rattle.witness_replay.specs.Witness.{key_of_ones}
use Rattle.question_formula.specs.Formula.{question_clauses, question_condition}
use Rattle.question_formula.specs.Laws.{ConditionVariablesExist, ImpossibleWithoutModel, ModelMeetsCondition, ModelRunAnswersYes, PossibleExactlyIfModel, YesExactlyIfMet}
use Rattle.question_formula.proofs.VariableLemmas.{over_below}

-- the variables of a question's formula are a formula's
pub are_plain : (x : Expanded) → AreVariablesOf x (plain_variables x)
are_plain x = record { kinds = refl; occurrences_first = omega arith }

-- the variable of two kinds is one of those that there are
order_up_to : OrderVariablesExist → (vars : Variables) (i j : ℕ) → IsKind vars i → IsKind vars j → i < j → order_variable vars i j ≤ variable_count vars
order_up_to exist vars i j kind_i kind_j less =
    cond_both (nat_lt i j) (positive (order_variable vars i j)) (negated (positive (order_variable vars j i)))
    (λ l. l.var ≤ variable_count vars → order_variable vars i j ≤ variable_count vars)
    (λ yes up_to. up_to)
    (λ no up_to. let not_less = ltb-false i j no in absurd (omega (arith, less, not_less)))
    (exist vars i j kind_i kind_j (λ same. absurd (omega (arith, less, same)))).1

-- an assignment with the same values at these reports the same
reports_too : OrderVariablesExist → (vars : Variables) (count : ℕ) (run : List Event) (key : List Value) (v w : ℕ → Bool) → vars.kinds ≤ vars.order_base → DiffersWithin (variable_count vars + 1) count v w → Reports vars run key v → Reports vars run key w
reports_too exist vars count run key v w first differs reports = record {
  occurring = λ kind is_kind.
      let up_to = is_kind.up_to in
      differs kind (inl (omega (arith, up_to, first))) ∙ reports.occurring kind is_kind;
  order = λ i j kind_i kind_j less.
      let up_to = order_up_to exist vars i j kind_i kind_j less in
      differs (order_variable vars i j) (inl (omega (arith, up_to))) ∙ reports.order i j kind_i kind_j less;
}

-- the clauses that the answer is yes
abbrev yes_clauses : Expanded → Question → List Written
yes_clauses x q = asserted (variable_count (plain_variables x) + 1) [] (question_condition x q)

-- a model of the clauses that reports a run
pub record HasReportingModel (x : Expanded) (q : Question) (run : List Event) (key : List Value) : Type 0 where
  pub assignment : ℕ → Bool
  pub satisfied : SatisfiesAll assignment (question_clauses x q)
  pub reports : Reports (plain_variables x) run key assignment

-- a legal run that gives the answer yes has one
pub reporting_model : ConditionVariablesExist → OrderVariablesExist → AssignmentExists → ReportsShow → SharedClausesHold → MetIsAsserted → YesExactlyIfMet → (x : Expanded) (q : Question) (run : List Event) (key : List Value) → IsAbout x q → IsLegalRun x run → IsAnsweredYes x run key q → HasReportingModel x q run key
reporting_model over exist assignments show shared asserts meets x q run key about legal answered =
    let vars = plain_variables x in
    let condition = question_condition x q in
    let (v, reports, between) = assignments vars run key (λ variable. false) (omega arith) in
    let met = (meets x vars q run key v (are_plain x) about legal (show vars run key v reports)).0 answered in
    let below = over_below (variable_count vars) condition (over x q about) in
    let (w, differs, satisfied) = asserts (variable_count vars + 1) condition v below met in
    let reports_w = reports_too exist vars (asserted_count condition) run key v w (omega arith) differs reports in
    record {
      assignment = w;
      satisfied = All-append (Satisfies w) (shared_clauses x vars) (yes_clauses x q) (shared x vars run key w (are_plain x) legal reports_w) satisfied;
      reports = reports_w;
    }

-- so a possible question has a model
model_if_possible : ConditionVariablesExist → OrderVariablesExist → AssignmentExists → ReportsShow → SharedClausesHold → MetIsAsserted → YesExactlyIfMet → (x : Expanded) (q : Question) → IsAbout x q → IsPossible x q → HasModel (question_clauses x q)
model_if_possible over exist assignments show shared asserts meets x q about possible =
    let model = reporting_model over exist assignments show shared asserts meets x q possible.run possible.key about possible.legal possible.yes in
    record { assignment = model.assignment; satisfied = model.satisfied }

-- what all items of two lists have, those of the second have
all_right : {X : Type 0} (P : X → Type 0) (xs ys : List X) → All P (xs ++ ys) → All P ys
all_right P xs ys all = All-weaker (Contains ys) P (λ x among. All-contains P (xs ++ ys) x all (Contains-append_right xs ys x among)) ys (All-contains_itself ys)

-- what satisfies the clauses of a question satisfies those that all formulas share
pub shared_satisfied : (x : Expanded) (q : Question) (v : ℕ → Bool) → SatisfiesAll v (question_clauses x q) → SatisfiesAll v (shared_clauses x (plain_variables x))
shared_satisfied x q v satisfied = all_prefix (Satisfies v) (shared_clauses x (plain_variables x)) (yes_clauses x q) satisfied

-- and meets its condition
pub model_meets : AssertedIsMet → ModelMeetsCondition
model_meets is_met x q v satisfied =
    let vars = plain_variables x in
    is_met (variable_count vars + 1) (question_condition x q) v (all_right (Satisfies v) (shared_clauses x vars) (yes_clauses x q) satisfied)

-- the run of a model gives the answer yes
pub model_run_answers : RunOfModelIsLegal → ModelShows → ModelMeetsCondition → YesExactlyIfMet → ModelRunAnswersYes
model_run_answers legal shows is_met meets x q v run about satisfied run_of =
    let vars = plain_variables x in
    let shared = shared_satisfied x q v satisfied in
    let is_legal = legal x vars v run (are_plain x) shared run_of in
    record {
      legal = is_legal;
      yes =
          (meets x vars q run (key_of_ones x) v (are_plain x) about is_legal (shows x vars v run (are_plain x) shared run_of)).1
          (is_met x q v satisfied);
    }

-- so a question with a model is possible
possible_if_model : SharedModelHasRun → ModelRunAnswersYes → (x : Expanded) (q : Question) → IsAbout x q → HasModel (question_clauses x q) → IsPossible x q
possible_if_model has_run answers x q about model =
    let vars = plain_variables x in
    let v = model.assignment in
    let found = has_run x vars v (are_plain x) (shared_satisfied x q v model.satisfied) in
    let answered = answers x q v found.run about model.satisfied found.run_of in
    record { run = found.run; legal = answered.legal; key = key_of_ones x; yes = answered.yes }

-- and only such a question
pub possible_exactly : ConditionVariablesExist → OrderVariablesExist → AssignmentExists → ReportsShow → SharedClausesHold → MetIsAsserted → YesExactlyIfMet → SharedModelHasRun → ModelRunAnswersYes → PossibleExactlyIfModel
possible_exactly over exist assignments show shared asserts meets has_run answers x q about =
    (model_if_possible over exist assignments show shared asserts meets x q about, possible_if_model has_run answers x q about)

-- so a formula without a model says that no legal run gives the answer yes
pub impossible : PossibleExactlyIfModel → WrittenIsSatisfied → ImpossibleWithoutModel
impossible exactly written x q f about is none possible =
    let model = (exactly x q about).0 possible in
    none model.assignment ((written model.assignment (question_clauses x q) f.clauses is.clauses).1 model.satisfied)
