-- What one moment shows, and when one message is at rest.
use Rattle.std.specs.Prelude.{ℕ, List}
use Rattle.bspl_types.specs.declared.event.Event.{Event}
use Rattle.bspl_types.specs.declared.expanded.Expanded.{Expanded}
use Rattle.bspl_types.specs.declared.value.Value.{Value}
use Rattle.questions.specs.declared.question.Happening.{Happening}
use Rattle.questions.specs.Answer.{HasArrived, IsExhausted}
use Rattle.questions.specs.Happening.{HasHappened}

-- at the end of the run the one has happened, and the other has not
pub record IsBetween (x : Expanded) (run : List Event) (key : List Value) (one other : Happening)
    : Type 0 where
  pub happened : HasHappened x run key one
  pub not_yet : ¬ HasHappened x run key other

-- the message has arrived if it was sent, and is excused, was sent or cannot be sent
pub record IsAtRest (x : Expanded) (run : List Event) (key : List Value) (excused : List ℕ)
    (m : ℕ) : Type 0 where
  pub arrived : HasArrived run key m
  pub exhausted : IsExhausted x run key excused m
