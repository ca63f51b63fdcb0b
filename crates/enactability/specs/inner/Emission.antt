-- Emissions of a message in a run, whatever their keys.
use Rattle.std.specs.Prelude.{◌≡◌, ℕ, ◌==◌, Bool, false, List}
use Rattle.std.specs.List.{Contains}
use Rattle.bspl_types.specs.declared.event.Event.{Event}
use Rattle.bspl_types.specs.declared.event.Event.TheVariants.{Emit, Receive}
use Rattle.bspl_types.specs.declared.event.Instance.{Instance}
use Rattle.enactability.specs.Answer.{IsCutAfter}

-- the event is an emission of the message
abbrev pub emits : ℕ → Event → Bool
emits m (Emit i) = i.message == m
emits m (Receive i) = false

-- some event is
pub record HasEmission (run : List Event) (m : ℕ) : Type 0 where
  pub instance : Instance
  pub emitted : Contains run (Emit instance)
  pub message_is : instance.message ≡ m

-- the run is one of the runs, cut after its first emission of the message
pub record IsCutOfOne (m : ℕ) (runs : List (List Event)) (run : List Event) : Type 0 where
  pub whole : List Event
  pub among : Contains runs whole
  pub is_cut : IsCutAfter m whole run
