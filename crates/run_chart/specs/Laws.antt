-- What a chart shows of a run. Each statement is the contract of a function.
use Rattle.std.specs.Prelude.{◌≡◌, ℕ, ◌<◌, List, Option, None, Some, MatchOption, slice_get}
use Rattle.std.specs.List.{Contains, enumerate_from, filter_map}
use Rattle.bspl_types.specs.declared.event.Event.{Event}
use Rattle.bspl_types.specs.declared.event.Event.TheVariants.{Emit, Receive}
use Rattle.bspl_types.specs.declared.event.Instance.{Instance}
use Rattle.bspl_types.specs.declared.expanded.Expanded.{Expanded}
use Rattle.bspl_types.specs.declared.value.Value.{Value}
use Rattle.bspl_types.specs.Expansion.{message_of}
use Rattle.bspl_types.specs.History.{history_of}
use Rattle.bspl_types.specs.Knowledge.{IsKnown}
use Rattle.enactment_model.specs.Legal.{IsLegal}
use Rattle.role_knowledge.specs.FirstKnown.{IsFirstKnown}
use Rattle.run_chart.specs.Knowledge.{value_known}
use Rattle.run_chart.specs.Strokes.{Arrow, Mark, Stroke, Stub, strokes}

-- the event of a mark, with its index
abbrev pub marked : Stroke → Option (ℕ × Event)
marked (Mark index role event) = Some (index, event)
marked (Arrow sent sender received receiver) = None
marked (Stub sent sender receiver) = None

-- the marks are those of the run's events, each once, in order
abbrev pub MarksAreTheEvents : Type 0
MarksAreTheEvents =
    (x : Expanded) (run : List Event) →
    filter_map marked (strokes x run) ≡ enumerate_from 0 run

-- an arrow's ends are an emission and a reception of one instance, and the roles of its message
pub record JoinsInstance (x : Expanded) (run : List Event)
    (sent sender received receiver : ℕ) : Type 0 where
  pub instance : Instance
  pub emission : slice_get run sent ≡ Some (Emit instance)
  pub reception : slice_get run received ≡ Some (Receive instance)
  pub sender_is : sender ≡ (message_of x instance.message).sender
  pub receiver_is : receiver ≡ (message_of x instance.message).receiver

-- so it is for each arrow of a chart
abbrev pub ArrowsJoinInstances : Type 0
ArrowsJoinInstances =
    (x : Expanded) (run : List Event) (sent sender received receiver : ℕ) →
    Contains (strokes x run) (Arrow sent sender received receiver) →
    JoinsInstance x run sent sender received receiver

-- an arrow leads from an earlier emission of the instance to the index, between the roles of its
-- message
pub record HasArrow (x : Expanded) (run : List Event) (received : ℕ) (i : Instance) : Type 0 where
  pub sent : ℕ
  pub earlier : sent < received
  pub drawn : Contains (strokes x run)
      (Arrow sent (message_of x i.message).sender received (message_of x i.message).receiver)

-- so it is for each reception of a legal run
abbrev pub ReceptionsHaveArrows : Type 0
ReceptionsHaveArrows =
    (x : Expanded) (run : List Event) (received : ℕ) (i : Instance) → IsLegal x run →
    slice_get run received ≡ Some (Receive i) → HasArrow x run received i

-- a stub begins at an emission that the run does not receive
pub record StubIsMissing (x : Expanded) (run : List Event) (sent sender receiver : ℕ) : Type 0 where
  pub instance : Instance
  pub emission : slice_get run sent ≡ Some (Emit instance)
  pub not_received : ¬ Contains run (Receive instance)
  pub sender_is : sender ≡ (message_of x instance.message).sender
  pub receiver_is : receiver ≡ (message_of x instance.message).receiver

-- so it is for each stub of a chart
abbrev pub StubsAreMissing : Type 0
StubsAreMissing =
    (x : Expanded) (run : List Event) (sent sender receiver : ℕ) →
    Contains (strokes x run) (Stub sent sender receiver) → StubIsMissing x run sent sender receiver

-- the value shown as known is the first that the role's history makes known under the key; if none
-- is shown, none is known
abbrev pub ShowsKnowledge : Type 0
ShowsKnowledge =
    (x : Expanded) (events : List Event) (role : ℕ) (key : List Value) (p : ℕ) →
    MatchOption (value_known x events role key p)
    (¬ IsKnown x (history_of x role events) key p)
    (IsFirstKnown x (history_of x role events) key p)
