-- When an enactment is quiet, and when a protocol is live.
use Rattle.std.specs.Prelude.{◌≡◌, ℕ, ◌<◌, List, slice_get, IsSomeAnd, IsTrue}
use Rattle.std.specs.List.{Contains}
use Rattle.bspl_types.specs.declared.event.Event.{Event}
use Rattle.bspl_types.specs.declared.event.Event.TheVariants.{Emit, Receive}
use Rattle.bspl_types.specs.declared.event.Instance.{Instance}
use Rattle.bspl_types.specs.declared.expanded.Expanded.{Expanded}
use Rattle.bspl_types.specs.declared.value.Value.{Value}
use Rattle.bspl_types.specs.Expansion.{message_of}
use Rattle.bspl_types.specs.History.{history_of}
use Rattle.bspl_types.specs.Knowledge.{CanEmit, IsKnown}
use Rattle.bspl_types.specs.Shape.{is_public_value}
use Rattle.enactment_model.specs.Legal.{IsLegalRun}

-- some instance of the message is emitted under the key
pub record IsEmitted (run : List Event) (key : List Value) (m : ℕ) : Type 0 where
  pub instance : Instance
  pub emitted : Contains run (Emit instance)
  pub under : instance.key ≡ key
  pub message_is : instance.message ≡ m

-- some instance of the message is received under the key
pub record IsReceived (run : List Event) (key : List Value) (m : ℕ) : Type 0 where
  pub instance : Instance
  pub received : Contains run (Receive instance)
  pub under : instance.key ≡ key
  pub message_is : instance.message ≡ m

-- what is emitted under the key is received, and no other message can be emitted under it
pub record Quiet (x : Expanded) (run : List Event) (key : List Value) : Type 0 where
  pub received : (i : Instance) → i.key ≡ key → Contains run (Emit i) → Contains run (Receive i)
  pub exhausted : (m : ℕ) → ¬ IsEmitted run key m →
      ¬ CanEmit x (history_of x (message_of x m).sender run) m key

-- some role's history knows the parameter under the key
pub record Bound (x : Expanded) (run : List Event) (key : List Value) (p : ℕ) : Type 0 where
  pub role : ℕ
  pub known : IsKnown x (history_of x role run) key p

-- the parameter is public, and adorned `in` or `out`
pub record HasPublicValue (x : Expanded) (p : ℕ) : Type 0 where
  pub public : p < x.public
  pub adorned : IsSomeAnd (slice_get x.params p) (λ info. IsTrue (is_public_value info.adornment))

-- at each key at which a legal run is quiet, even one without events, what is public is bound
pub record LiveProtocol (x : Expanded) : Type 0 where
  pub bound : (run : List Event) (key : List Value) → IsLegalRun x run → Quiet x run key →
      (p : ℕ) → HasPublicValue x p → Bound x run key p
