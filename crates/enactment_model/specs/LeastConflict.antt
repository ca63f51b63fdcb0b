-- The conflict of a run that comes first.
use Rattle.std.specs.Prelude.{◌≡◌, ℕ, ◌+◌, ◌≤◌, List}
use Rattle.bspl_types.specs.declared.event.Event.{Event}
use Rattle.bspl_types.specs.declared.expanded.Expanded.{Expanded}
use Rattle.bspl_types.specs.declared.value.Value.{Value}
use Rattle.enactment_model.specs.declared.conflicts.Conflict.{Conflict as SpecConflict}
use Rattle.enactment_model.specs.Safety.{Conflict}

-- a conflict, its positions counted from 1: no conflict has an earlier second producer, none with
-- that one has a smaller parameter, and none with both has an earlier first producer
pub record IsLeastConflict (x : Expanded) (run : List Event) (found : SpecConflict) : Type 0 where
  pub key : List Value
  pub first : ℕ
  pub second : ℕ
  pub first_is : found.first ≡ first + 1
  pub second_is : found.second ≡ second + 1
  pub conflict : Conflict x run key found.param first second
  pub least_second : (any : List Value) (p i j : ℕ) → Conflict x run any p i j → second ≤ j
  pub least_param : (any : List Value) (p i : ℕ) → Conflict x run any p i second → found.param ≤ p
  pub least_first : (any : List Value) (i : ℕ) → Conflict x run any found.param i second → first ≤ i
