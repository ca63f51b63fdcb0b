-- The run that refutes a property of a protocol: the run of an assignment, cut where it does so.
use Rattle.std.specs.Prelude.{◌≡◌, ◌+◌, ℕ, Bool, List, length, take}
use Rattle.std.specs.List.{All}
use Rattle.bspl_types.specs.declared.event.Event.{Event}
use Rattle.bspl_types.specs.declared.expanded.Expanded.{Expanded}
use Rattle.bspl_types.specs.declared.property.Property.{Property}
use Rattle.bspl_types.specs.declared.property.Property.TheVariants.{Liveness, Safety}
use Rattle.bspl_types.specs.declared.value.Value.{Value}
use Rattle.bspl_types.specs.History.{instance_of}
use Rattle.clause_encoding.specs.Formula.{variables_of}
use Rattle.enactment_model.specs.declared.conflicts.Conflict.{Conflict as SpecConflict}
use Rattle.enactment_model.specs.LeastConflict.{IsLeastConflict}
use Rattle.enactment_model.specs.Legal.{IsLegalRun}
use Rattle.enactment_model.specs.Liveness.{Bound, HasPublicValue, Quiet}
use Rattle.enactment_model.specs.Property.{Holds}
use Rattle.enactment_model.specs.Safety.{Conflict}
use Rattle.witness_replay.specs.Witness.{IsRunOfAssignment, key_of_ones}

-- the run is cut after the second producer of its least conflict, which is that of the whole run
pub record IsCutAtConflict (x : Expanded) (whole run : List Event) : Type 0 where
  pub found : SpecConflict
  pub of_whole : IsLeastConflict x whole found
  pub cut : run ≡ take found.second whole
  pub least : IsLeastConflict x run found
  pub last : found.second ≡ length run

-- where the run of an assignment is cut, by the property that it refutes; for liveness it is whole
abbrev pub IsCut : Property → Expanded → List Event → List Event → Type 0
IsCut Safety x whole run = IsCutAtConflict x whole run
IsCut Liveness x whole run = run ≡ whole

-- the run of the assignment, cut so; all of it is under the key of ones
pub record IsRefutingRun (property : Property) (x : Expanded) (v : ℕ → Bool) (run : List Event)
    : Type 0 where
  pub whole : List Event
  pub run_of : IsRunOfAssignment x (variables_of property x) v whole
  pub cut : IsCut property x whole run
  pub ones : All (λ e. (instance_of e).key ≡ key_of_ones x) run

-- the last event is the second producer of a conflict
pub record EndsInConflict (x : Expanded) (run : List Event) : Type 0 where
  pub key : List Value
  pub param : ℕ
  pub first : ℕ
  pub second : ℕ
  pub conflict : Conflict x run key param first second
  pub last : length run ≡ second + 1

-- at the key of ones the run is quiet, and a public parameter with a value is not bound
pub record RestsUnbound (x : Expanded) (run : List Event) : Type 0 where
  pub quiet : Quiet x run (key_of_ones x)
  pub param : ℕ
  pub public : HasPublicValue x param
  pub unbound : ¬ Bound x run (key_of_ones x) param

-- how a run refutes the property
abbrev pub Refutes : Property → Expanded → List Event → Type 0
Refutes Safety x run = EndsInConflict x run
Refutes Liveness x run = RestsUnbound x run

-- the run of the assignment is legal and refutes the property, so the protocol does not have it
pub record IsCounterexample (property : Property) (x : Expanded) (v : ℕ → Bool) (run : List Event)
    : Type 0 where
  pub refuting : IsRefutingRun property x v run
  pub legal : IsLegalRun x run
  pub refutes : Refutes property x run
  pub fails : ¬ Holds property x
