-- The part of a run under one key, and what it keeps of the run.
use Rattle.std.specs.Prelude.{◌≡◌, ℕ, ◌↔◌, List, length, slice_get, Some, take}
use Rattle.std.specs.List.{All, filter}
use Rattle.bspl_types.specs.declared.event.Event.{Event}
use Rattle.bspl_types.specs.declared.expanded.Expanded.{Expanded}
use Rattle.bspl_types.specs.declared.value.Value.{Value}
use Rattle.bspl_types.specs.History.{history_of, instance_of}
use Rattle.bspl_types.specs.Knowledge.{Knows}
use Rattle.bspl_types.specs.Value.{equal_values}
use Rattle.enactment_model.specs.Legal.{IsLegalRun}
use Rattle.enactment_model.specs.Liveness.{Quiet}
use Rattle.enactment_model.specs.Safety.{Conflict}

-- the events under the key, in order
abbrev pub run_under : List Value → List Event → List Event
run_under key run = filter (λ e. equal_values (instance_of e).key key) run

-- how many events under the key come before the position
abbrev pub position_under : List Value → List Event → ℕ → ℕ
position_under key run position = length (run_under key (take position run))

-- the run has this conflict, its positions counted among the events under the key
pub record HasConflictUnder
    (x : Expanded) (run : List Event) (key : List Value) (p first second : ℕ) : Type 0 where
  pub position : ℕ
  pub later : ℕ
  pub conflict : Conflict x run key p position later
  pub position_is : position_under key run position ≡ first
  pub later_is : position_under key run later ≡ second

-- the events under the key are a legal run, with the knowledge and conflicts of the whole run under
-- that key, and quiet there exactly if the whole run is
pub record KeepsEnactment (x : Expanded) (run : List Event) (key : List Value) : Type 0 where
  pub legal : IsLegalRun x (run_under key run)
  pub own : All (λ e. (instance_of e).key ≡ key) (run_under key run)
  pub acts : (position : ℕ) (e : Event) → slice_get run position ≡ Some e →
      (instance_of e).key ≡ key →
      slice_get (run_under key run) (position_under key run position) ≡ Some e
  pub knowledge : (role p : ℕ) (v : Value) →
      (Knows x (history_of x role run) key p v) ↔
      (Knows x (history_of x role (run_under key run)) key p v)
  pub conflicts : (p first second : ℕ) →
      (HasConflictUnder x run key p first second) ↔
      (Conflict x (run_under key run) key p first second)
  pub quiet : (Quiet x run key) ↔ (Quiet x (run_under key run) key)
