-- Which events are the first under their keys.
use Rattle.std.specs.Prelude.{◌≡◌, ◌≢◌, ℕ, ◌<◌, List, slice_get, Some}
use Rattle.bspl_types.specs.declared.event.Event.{Event}
use Rattle.bspl_types.specs.History.{instance_of}

-- no earlier event has the key of the event at the position
abbrev pub IsFirstOfKey : List Event → ℕ → Type 0
IsFirstOfKey run position =
    (event : Event) → slice_get run position ≡ Some event →
    (k : ℕ) (other : Event) → k < position → slice_get run k ≡ Some other →
    (instance_of other).key ≢ (instance_of event).key

-- an earlier event has the key of the event
pub record HasKeyBefore (run : List Event) (position : ℕ) (event : Event) : Type 0 where
  pub earlier : ℕ
  pub other : Event
  pub before : earlier < position
  pub at : slice_get run earlier ≡ Some other
  pub same : (instance_of other).key ≡ (instance_of event).key

-- an earlier event has the key of the event at the position
abbrev pub IsRepeatOfKey : List Event → ℕ → Type 0
IsRepeatOfKey run position =
    (event : Event) → slice_get run position ≡ Some event → HasKeyBefore run position event
