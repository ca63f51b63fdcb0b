-- Safety as questions: can two different messages that produce one parameter both have been sent?
use Rattle.std.specs.Prelude.{◌≡◌, ◌≢◌, ◌↔◌, ℕ, List}
use Rattle.bspl_types.specs.declared.event.Event.{Event}
use Rattle.bspl_types.specs.declared.expanded.Expanded.{Expanded}
use Rattle.bspl_types.specs.declared.value.Value.{Value}
use Rattle.bspl_types.specs.Admission.{IsAdmitted}
use Rattle.bspl_types.specs.Expansion.{message_of}
use Rattle.enactment_model.specs.Legal.{IsLegalRun}
use Rattle.enactment_model.specs.Producers.{SharesOut}
use Rattle.enactment_model.specs.Safety.{Conflict, SafeProtocol}
use Rattle.questions.specs.declared.question.Happening.TheVariants as happenings
use Rattle.questions.specs.declared.question.Question.{Question}
use Rattle.questions.specs.declared.question.Question.TheVariants as asks
use Rattle.questions.specs.Answer.{IsPossible}

-- some legal run has a conflict
pub record HasConflictingRun (x : Expanded) : Type 0 where
  pub run : List Event
  pub legal : IsLegalRun x run
  pub key : List Value
  pub param : ℕ
  pub first : ℕ
  pub second : ℕ
  pub conflict : Conflict x run key param first second

-- the messages are different, and both adorn some parameter `out`
pub record AreRivals (x : Expanded) (m n : ℕ) : Type 0 where
  pub differ : m ≢ n
  pub shares : SharesOut (message_of x m) (message_of x n)

-- the question is `sent m and sent n`
abbrev pub AsksBothSent : ℕ → ℕ → Question → Type 0
AsksBothSent m n (asks.And' _ q _ r) =
    (q ≡ asks.Happened (happenings.Sent m)) × (r ≡ asks.Happened (happenings.Sent n))
AsksBothSent m n q = ⊥

-- the question about some such messages is possible
pub record HasPossibleRivals (x : Expanded) (question : ℕ → ℕ → Question) : Type 0 where
  pub one : ℕ
  pub other : ℕ
  pub rivals : AreRivals x one other
  pub possible : IsPossible x (question one other)

-- some legal run has a conflict exactly if one of these questions is possible
abbrev pub ConflictIsAQuestion : Type 0
ConflictIsAQuestion =
    (x : Expanded) (question : ℕ → ℕ → Question) →
    ((m n : ℕ) → AsksBothSent m n (question m n)) →
    (HasConflictingRun x ↔ HasPossibleRivals x question)

-- an admitted protocol is safe exactly if none of them is
abbrev pub SafetyIsAQuestion : Type 0
SafetyIsAQuestion =
    (x : Expanded) (question : ℕ → ℕ → Question) →
    ((m n : ℕ) → AsksBothSent m n (question m n)) → IsAdmitted x →
    (SafeProtocol x ↔ ((m n : ℕ) → AreRivals x m n → ¬ IsPossible x (question m n)))
