-- The first emission of an instance.
use Rattle.std.specs.Prelude.{◌≡◌, ◌≢◌, ℕ, ◌<◌, ◌≤◌, List, length, slice_get, Some}
use Rattle.bspl_types.specs.declared.event.Event.{Event}
use Rattle.bspl_types.specs.declared.event.Event.TheVariants.{Emit}
use Rattle.bspl_types.specs.declared.event.Instance.{Instance}

-- the instance is emitted at the position and not before; if it is never emitted, the position is
-- the length of the run
pub record IsFirstEmission (run : List Event) (i : Instance) (found : ℕ) : Type 0 where
  pub within : found ≤ length run
  pub none_before : (k : ℕ) → k < found → slice_get run k ≢ Some (Emit i)
  pub emitted : found < length run → slice_get run found ≡ Some (Emit i)
