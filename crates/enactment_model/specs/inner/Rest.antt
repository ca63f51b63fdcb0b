-- When one message leaves an enactment quiet.
use Rattle.std.specs.Prelude.{◌≡◌, ℕ, List}
use Rattle.std.specs.List.{Contains}
use Rattle.bspl_types.specs.declared.event.Event.{Event}
use Rattle.bspl_types.specs.declared.event.Event.TheVariants.{Emit, Receive}
use Rattle.bspl_types.specs.declared.event.Instance.{Instance}
use Rattle.bspl_types.specs.declared.expanded.Expanded.{Expanded}
use Rattle.bspl_types.specs.declared.value.Value.{Value}
use Rattle.bspl_types.specs.Expansion.{message_of}
use Rattle.bspl_types.specs.History.{history_of}
use Rattle.bspl_types.specs.Knowledge.{CanEmit}
use Rattle.enactment_model.specs.Liveness.{IsEmitted}

-- the instances of the message that are emitted under the key are received
pub record AreReceived (run : List Event) (key : List Value) (m : ℕ) : Type 0 where
  pub received : (i : Instance) → i.message ≡ m → i.key ≡ key → Contains run (Emit i) →
      Contains run (Receive i)

-- what is emitted of the message is received, and it can be emitted only if it was
pub record IsAtRest (x : Expanded) (run : List Event) (key : List Value) (m : ℕ) : Type 0 where
  pub received : AreReceived run key m
  pub exhausted : ¬ IsEmitted run key m →
      ¬ CanEmit x (history_of x (message_of x m).sender run) m key

-- the event emits an instance of the message under the key
pub record EmitsOf (key : List Value) (m : ℕ) (event : Event) : Type 0 where
  pub instance : Instance
  pub emitted : event ≡ Emit instance
  pub under : instance.key ≡ key
  pub message_is : instance.message ≡ m

-- the event receives an instance of the message under the key
pub record ReceivesOf (key : List Value) (m : ℕ) (event : Event) : Type 0 where
  pub instance : Instance
  pub received : event ≡ Receive instance
  pub under : instance.key ≡ key
  pub message_is : instance.message ≡ m
