-- What a history makes known of a parameter, and what it permits to emit.
use Rattle.std.specs.Prelude.{◌≡◌, ℕ, ◌<◌, List, length}
use Rattle.std.specs.List.{Contains}
use Rattle.bspl_types.specs.declared.event.Event.{Event}
use Rattle.bspl_types.specs.declared.event.Instance.{Instance}
use Rattle.bspl_types.specs.declared.expanded.Expanded.{Expanded}
use Rattle.bspl_types.specs.declared.protocol.Adornment.{Adornment}
use Rattle.bspl_types.specs.declared.protocol.Adornment.TheVariants.{In, Out, Nil}
use Rattle.bspl_types.specs.declared.value.Value.{Value}
use Rattle.bspl_types.specs.Expansion.{Adorns}
use Rattle.bspl_types.specs.History.{instance_of}
use Rattle.bspl_types.specs.Instance.{Carries}

-- some event under the key carries the parameter with that value
pub record Knows (x : Expanded) (history : List Event) (key : List Value) (p : ℕ) (v : Value)
    : Type 0 where
  pub event : Event
  pub among : Contains history event
  pub under : (instance_of event).key ≡ key
  pub adornment : Adornment
  pub carries : Carries x (instance_of event) adornment p v

-- some value is known
abbrev pub IsKnown : Expanded → List Event → List Value → ℕ → Type 0
IsKnown x history key p = (v : Value) × Knows x history key p v

-- the message exists, each `in` parameter of it is known under the key,
-- and no `out` and no `nil` parameter is
pub record CanEmit (x : Expanded) (history : List Event) (m : ℕ) (key : List Value) : Type 0 where
  pub known : m < length x.messages
  pub ins : (p : ℕ) → Adorns x m In p → IsKnown x history key p
  pub outs : (p : ℕ) → Adorns x m Out p → ¬ IsKnown x history key p
  pub nils : (p : ℕ) → Adorns x m Nil p → ¬ IsKnown x history key p

-- its message can be emitted under its key, and its `in` parameters are known with its own values
pub record IsEnabled (x : Expanded) (history : List Event) (i : Instance) : Type 0 where
  pub can : CanEmit x history i.message i.key
  pub same : (p : ℕ) (v : Value) → Carries x i In p v → Knows x history i.key p v
