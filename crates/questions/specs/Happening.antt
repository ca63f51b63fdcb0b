-- What may have happened in one enactment, and what had happened before what.
use Rattle.std.specs.Prelude.{ℕ, List, take}
use Rattle.bspl_types.specs.declared.event.Event.{Event}
use Rattle.bspl_types.specs.declared.expanded.Expanded.{Expanded}
use Rattle.bspl_types.specs.declared.value.Value.{Value}
use Rattle.bspl_types.specs.History.{history_of}
use Rattle.bspl_types.specs.Knowledge.{IsKnown}
use Rattle.enactment_model.specs.Liveness.{Bound, IsEmitted, IsReceived}
use Rattle.questions.specs.declared.question.Happening.{Happening}
use Rattle.questions.specs.declared.question.Happening.TheVariants as happenings

-- it has happened in the enactment of the key
abbrev pub HasHappened : Expanded → List Event → List Value → Happening → Type 0
HasHappened x run key (happenings.Sent m) = IsEmitted run key m
HasHappened x run key (happenings.Received m) = IsReceived run key m
HasHappened x run key (happenings.Knows role p) = IsKnown x (history_of x role run) key p
HasHappened x run key (happenings.Bound p) = Bound x run key p

-- at some moment so far the one had happened, and the other had not
pub record HappenedBefore (x : Expanded) (run : List Event) (key : List Value)
    (one other : Happening) : Type 0 where
  pub moment : ℕ
  pub happened : HasHappened x (take moment run) key one
  pub not_yet : ¬ HasHappened x (take moment run) key other
