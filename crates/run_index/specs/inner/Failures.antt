-- The first event of some that does not meet a demand.
use Rattle.std.specs.Prelude.{◌≡◌, ℕ, ◌<◌, ◌≤◌, List, length, slice_get, Some, take}
use Rattle.bspl_types.specs.declared.event.Event.{Event}
use Rattle.bspl_types.specs.declared.expanded.Expanded.{Expanded}
use Rattle.run_index.specs.declared.demand.Demand.{Demand}
use Rattle.run_index.specs.inner.Demands.{Meets}

-- the events of this kind before the position meet the demand, and the one there does not; if all
-- do, the position is the length of the run
pub record IsFirstFailure (x : Expanded) (demand : Demand) (run : List Event)
    (OfKind : Event → Type 0) (found : ℕ) : Type 0 where
  pub within : found ≤ length run
  pub met : (k : ℕ) (e : Event) → k < found → slice_get run k ≡ Some e → OfKind e →
      Meets x demand (take k run) e
  pub failed : (e : Event) → slice_get run found ≡ Some e → ¬ Meets x demand (take found run) e
