-- The events of one enactment.
use Rattle.std.specs.Prelude.{◌≡◌, ◌↔◌, List}
use Rattle.std.specs.List.{Contains}
use Rattle.bspl_types.specs.declared.event.Event.{Event}
use Rattle.bspl_types.specs.declared.value.Value.{Value}
use Rattle.bspl_types.specs.History.{instance_of}

-- the events are those of the run under the key
pub record HasEventsUnder (run : List Event) (key : List Value) (events : List Event)
    : Type 0 where
  pub members : (e : Event) →
      (Contains events e) ↔ (Contains run e × ((instance_of e).key ≡ key))
