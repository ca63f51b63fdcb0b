-- The first message that keeps an enactment from being quiet.
use Rattle.std.specs.Prelude.{◌≡◌, ℕ, ◌<◌, ◌⊎◌, List}
use Rattle.std.specs.List.{Contains}
use Rattle.bspl_types.specs.declared.event.Event.{Event}
use Rattle.bspl_types.specs.declared.event.Event.TheVariants.{Emit, Receive}
use Rattle.bspl_types.specs.declared.event.Instance.{Instance}
use Rattle.bspl_types.specs.declared.expanded.Expanded.{Expanded}
use Rattle.bspl_types.specs.declared.value.Value.{Value}
use Rattle.bspl_types.specs.Expansion.{message_of}
use Rattle.bspl_types.specs.History.{history_of}
use Rattle.bspl_types.specs.Knowledge.{CanEmit}
use Rattle.enactment_model.specs.declared.quietness.Loose.{Loose}
use Rattle.enactment_model.specs.Liveness.{IsEmitted}

-- an instance of the message is emitted under the key, and received nowhere
pub record IsUnreceived (run : List Event) (key : List Value) (m : ℕ) : Type 0 where
  pub instance : Instance
  pub emitted : Contains run (Emit instance)
  pub under : instance.key ≡ key
  pub message_is : instance.message ≡ m
  pub unreceived : ¬ Contains run (Receive instance)

-- the message is not emitted under the key, and can be
pub record IsStillEnabled (x : Expanded) (run : List Event) (key : List Value) (m : ℕ)
    : Type 0 where
  pub unemitted : ¬ IsEmitted run key m
  pub can : CanEmit x (history_of x (message_of x m).sender run) m key

-- an instance of the message is not received, or one can still be emitted
abbrev pub IsLoose : Expanded → List Event → List Value → ℕ → Type 0
IsLoose x run key m = IsUnreceived run key m ⊎ IsStillEnabled x run key m

-- the message is loose, and none before it is
pub record IsFirstLoose (x : Expanded) (run : List Event) (key : List Value) (found : Loose)
    : Type 0 where
  pub loose : IsLoose x run key found.message
  pub first : (m : ℕ) → m < found.message → ¬ IsLoose x run key m
