-- The shortest prefix of a run with a conflict.
use Rattle.std.specs.Prelude.{◌≡◌, ℕ, ◌+◌, ◌<◌, ◌≤◌, List, length, take}
use Rattle.bspl_types.specs.declared.event.Event.{Event}
use Rattle.bspl_types.specs.declared.expanded.Expanded.{Expanded}
use Rattle.bspl_types.specs.declared.value.Value.{Value}
use Rattle.enactment_model.specs.Legal.{IsLegalRun}
use Rattle.enactment_model.specs.Safety.{Conflict, HasNoConflict}

-- a legal prefix has a conflict whose second producer is its last event; no shorter prefix has one
pub record HasShortestConflict (x : Expanded) (run : List Event) : Type 0 where
  pub events : ℕ
  pub within : events ≤ length run
  pub legal : IsLegalRun x (take events run)
  pub key : List Value
  pub param : ℕ
  pub first : ℕ
  pub second : ℕ
  pub conflict : Conflict x (take events run) key param first second
  pub last : second + 1 ≡ events
  pub shorter : (fewer : ℕ) → fewer < events → HasNoConflict x (take fewer run)

-- each legal run with a conflict has such a prefix
abbrev pub ShortestConflict : Type 0
ShortestConflict =
    (x : Expanded) (run : List Event) (key : List Value) (p first second : ℕ) → IsLegalRun x run →
    Conflict x run key p first second → HasShortestConflict x run
