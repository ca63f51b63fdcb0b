-- What a question on one enactment asks, and which protocols can give the answer.
use Rattle.std.specs.Prelude.{ℕ, ◌⊎◌, List}
use Rattle.std.specs.List.{Contains}
use Rattle.bspl_types.specs.declared.event.Event.{Event}
use Rattle.bspl_types.specs.declared.expanded.Expanded.{Expanded}
use Rattle.bspl_types.specs.declared.value.Value.{Value}
use Rattle.bspl_types.specs.History.{sender_history}
use Rattle.bspl_types.specs.Knowledge.{CanEmit}
use Rattle.enactment_model.specs.Legal.{IsLegalRun}
use Rattle.enactment_model.specs.Liveness.{IsEmitted, IsReceived}
use Rattle.questions.specs.declared.question.Question.{Question}
use Rattle.questions.specs.declared.question.Question.TheVariants as asks
use Rattle.questions.specs.Happening.{HappenedBefore, HasHappened}

-- the message can be sent now, be it for the first time or again
abbrev pub CanBeSent : Expanded → List Event → List Value → ℕ → Type 0
CanBeSent x run key m = CanEmit x (sender_history x run m) m key

-- the message has arrived if it was sent
abbrev pub HasArrived : List Event → List Value → ℕ → Type 0
HasArrived run key m = IsEmitted run key m → IsReceived run key m

-- the message cannot be sent, unless it is excused or was sent before
abbrev pub IsExhausted : Expanded → List Event → List Value → List ℕ → ℕ → Type 0
IsExhausted x run key excused m =
    ¬ Contains excused m → ¬ IsEmitted run key m → ¬ CanBeSent x run key m

-- what was sent has arrived, and no message that was not sent can be sent, but for the excused
pub record ComesToRest (x : Expanded) (run : List Event) (key : List Value) (excused : List ℕ)
    : Type 0 where
  pub arrived : (m : ℕ) → HasArrived run key m
  pub exhausted : (m : ℕ) → IsExhausted x run key excused m

-- the answer is yes at the end of the run, for the enactment of the key
abbrev pub IsAnsweredYes : Expanded → List Event → List Value → Question → Type 0
IsAnsweredYes x run key (asks.Happened h) = HasHappened x run key h
IsAnsweredYes x run key (asks.Before one other) = HappenedBefore x run key one other
IsAnsweredYes x run key (asks.Can m) = CanBeSent x run key m
IsAnsweredYes x run key (asks.Rest excused) = ComesToRest x run key excused
IsAnsweredYes x run key (asks.Not' _ q) = ¬ IsAnsweredYes x run key q
IsAnsweredYes x run key (asks.And' _ q _ r) = IsAnsweredYes x run key q × IsAnsweredYes x run key r
IsAnsweredYes x run key (asks.Or' _ q _ r) = IsAnsweredYes x run key q ⊎ IsAnsweredYes x run key r

-- some legal run gives the answer yes at some key
pub record IsPossible (x : Expanded) (q : Question) : Type 0 where
  pub run : List Event
  pub legal : IsLegalRun x run
  pub key : List Value
  pub yes : IsAnsweredYes x run key q
