-- The formula of a question is exact both ways. Each statement is the contract of a function.
use Rattle.std.specs.Prelude.{◌↔◌, ℕ, Bool, List}
use Rattle.bspl_types.specs.declared.event.Event.{Event}
use Rattle.bspl_types.specs.declared.expanded.Expanded.{Expanded}
use Rattle.bspl_types.specs.declared.value.Value.{Value}
use Rattle.circuit_clauses.specs.Condition.{IsOver, Meets}
use Rattle.clause_core.specs.declared.formula.Formula.{Formula}
use Rattle.clause_core.specs.Clause.{IsUnsatisfiable, SatisfiesAll}
use Rattle.clause_encoding.specs.declared.variables.Variables.{Variables}
use Rattle.clause_encoding.specs.Families.{shared_clauses}
use Rattle.clause_encoding.specs.Formula.{plain_variables}
use Rattle.clause_encoding.specs.Variables.{variable_count}
use Rattle.enactment_model.specs.Legal.{IsLegalRun}
use Rattle.first_occurrences.specs.Laws.{HasModel}
use Rattle.first_occurrences.specs.Report.{AreVariablesOf}
use Rattle.first_occurrences.specs.Shown.{Shows}
use Rattle.questions.specs.declared.question.Question.{Question}
use Rattle.questions.specs.Answer.{IsAnsweredYes, IsPossible}
use Rattle.questions.specs.Subject.{IsAbout}
use Rattle.witness_replay.specs.Witness.{IsRunOfAssignment, key_of_ones}
use Rattle.question_formula.specs.Conditions.{asked}
use Rattle.question_formula.specs.Formula.{IsQuestionFormula, question_clauses, question_condition}

-- where an assignment shows a legal run, the answer is yes exactly if the condition is met
abbrev pub YesExactlyIfMet : Type 0
YesExactlyIfMet =
    (x : Expanded) (vars : Variables) (q : Question) (run : List Event) (key : List Value)
    (v : ℕ → Bool) →
    AreVariablesOf x vars → IsAbout x q → IsLegalRun x run → Shows vars run key v →
    (IsAnsweredYes x run key q ↔ Meets v (asked x vars q))

-- each variable of the condition is one of those that all questions share
abbrev pub ConditionVariablesExist : Type 0
ConditionVariablesExist =
    (x : Expanded) (q : Question) → IsAbout x q →
    IsOver (variable_count (plain_variables x)) (question_condition x q)

-- some legal run gives the answer yes exactly if some assignment satisfies the clauses
abbrev pub PossibleExactlyIfModel : Type 0
PossibleExactlyIfModel =
    (x : Expanded) (q : Question) → IsAbout x q →
    (IsPossible x q ↔ HasModel (question_clauses x q))

-- so no legal run does, over any number of keys, if the formula has no model
abbrev pub ImpossibleWithoutModel : Type 0
ImpossibleWithoutModel =
    (x : Expanded) (q : Question) (f : Formula) → IsAbout x q → IsQuestionFormula x q f →
    IsUnsatisfiable f.clauses → ¬ IsPossible x q

-- a legal run that gives the answer yes at the key of ones
pub record AnswersYes (x : Expanded) (q : Question) (run : List Event) : Type 0 where
  pub legal : IsLegalRun x run
  pub yes : IsAnsweredYes x run (key_of_ones x) q

-- the run of an assignment that satisfies the clauses is one
abbrev pub ModelRunAnswersYes : Type 0
ModelRunAnswersYes =
    (x : Expanded) (q : Question) (v : ℕ → Bool) (run : List Event) → IsAbout x q →
    SatisfiesAll v (question_clauses x q) → IsRunOfAssignment x (plain_variables x) v run →
    AnswersYes x q run

-- an assignment that satisfies the clauses of a question meets its condition
abbrev pub ModelMeetsCondition : Type 0
ModelMeetsCondition =
    (x : Expanded) (q : Question) (v : ℕ → Bool) → SatisfiesAll v (question_clauses x q) →
    Meets v (question_condition x q)

-- where an assignment satisfies what all questions share and meets the condition of one, some
-- assignment satisfies the clauses of that one and has the same runs
abbrev pub MeetingModelExtends : Type 0
MeetingModelExtends =
    (x : Expanded) (q : Question) (v : ℕ → Bool) → IsAbout x q →
    SatisfiesAll v (shared_clauses x (plain_variables x)) → Meets v (question_condition x q) →
    (w : ℕ → Bool) × SatisfiesAll w (question_clauses x q) ×
    ((run : List Event) → IsRunOfAssignment x (plain_variables x) v run →
    IsRunOfAssignment x (plain_variables x) w run)
