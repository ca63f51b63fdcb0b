-- Which events bind a parameter: each has a message that adorns it `in` or `out`.
use Rattle.std.specs.Prelude.{◌≡◌, ℕ, List}
use Rattle.std.specs.List.{Contains}
use Rattle.bspl_types.specs.declared.event.Event.{Event}
use Rattle.bspl_types.specs.declared.expanded.Expanded.{Expanded}
use Rattle.bspl_types.specs.declared.value.Value.{Value}
use Rattle.bspl_types.specs.Adornment.{Binds}
use Rattle.bspl_types.specs.Expansion.{message_of}
use Rattle.bspl_types.specs.History.{instance_of}

-- some event under the key has a message that adorns the parameter `in` or `out`
pub record HasBindingEvent (x : Expanded) (history : List Event) (key : List Value) (p : ℕ)
    : Type 0 where
  pub event : Event
  pub among : Contains history event
  pub under : (instance_of event).key ≡ key
  pub binds : Binds (message_of x (instance_of event).message).carried p
