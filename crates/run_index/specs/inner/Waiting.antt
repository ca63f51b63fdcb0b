-- Which emissions among some events are received nowhere in the run, and which can still come.
use Rattle.std.specs.Prelude.{◌≡◌, ℕ, List}
use Rattle.std.specs.List.{Contains}
use Rattle.bspl_types.specs.declared.event.Event.{Event}
use Rattle.bspl_types.specs.declared.event.Event.TheVariants.{Emit, Receive}
use Rattle.bspl_types.specs.declared.event.Instance.{Instance}
use Rattle.bspl_types.specs.declared.expanded.Expanded.{Expanded}
use Rattle.bspl_types.specs.declared.value.Value.{Value}
use Rattle.bspl_types.specs.History.{sender_history}
use Rattle.bspl_types.specs.Knowledge.{CanEmit}
use Rattle.enactment_model.specs.Liveness.{IsEmitted}

-- one of the events emits an instance of the message under the key that is received nowhere
pub record HasUnreceived (run : List Event) (key : List Value) (m : ℕ) (events : List Event)
    : Type 0 where
  pub instance : Instance
  pub emitted : Contains events (Emit instance)
  pub under : instance.key ≡ key
  pub message_is : instance.message ≡ m
  pub unreceived : ¬ Contains run (Receive instance)

-- what the events emit of the message under the key is received
abbrev pub HasAllReceived : List Event → List Value → ℕ → List Event → Type 0
HasAllReceived run key m events =
    (i : Instance) → i.message ≡ m → i.key ≡ key → Contains events (Emit i) →
    Contains run (Receive i)

-- the message is emitted under the key, or cannot be
abbrev pub IsExhausted : Expanded → List Event → List Value → ℕ → Type 0
IsExhausted x events key m =
    ¬ IsEmitted events key m → ¬ CanEmit x (sender_history x events m) m key
