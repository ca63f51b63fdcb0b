-- The first emission of a run that is not enabled.
use Rattle.std.specs.Prelude.{◌≡◌, ℕ, ◌<◌, ◌≤◌, List, length, slice_get, Some, take}
use Rattle.bspl_types.specs.declared.event.Event.{Event}
use Rattle.bspl_types.specs.declared.event.Event.TheVariants.{Emit, Receive}
use Rattle.bspl_types.specs.declared.expanded.Expanded.{Expanded}
use Rattle.bspl_types.specs.History.{sender_history}
use Rattle.bspl_types.specs.Knowledge.{IsEnabled}

-- an emission is enabled in its sender's history so far; nothing is asked of a receipt
abbrev pub IsEnabledAfter : Expanded → List Event → Event → Type 0
IsEnabledAfter x before (Emit i) = IsEnabled x (sender_history x before i.message) i
IsEnabledAfter x before (Receive i) = Unit {0}

-- the emissions before the position are enabled, and the event there is an emission that is not; if
-- all are, the position is the length of the run
pub record IsFirstDisabled (x : Expanded) (run : List Event) (found : ℕ) : Type 0 where
  pub within : found ≤ length run
  pub enabled : (k : ℕ) (e : Event) → k < found → slice_get run k ≡ Some e →
      IsEnabledAfter x (take k run) e
  pub disabled : (e : Event) → slice_get run found ≡ Some e → ¬ IsEnabledAfter x (take found run) e
