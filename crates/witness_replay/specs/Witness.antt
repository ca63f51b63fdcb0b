-- The run of an assignment: an event for each kind that occurs, in the order of their variables.
use Rattle.std.specs.Prelude.{◌≡◌, ◌≢◌, ℕ, ◌+◌, ◌↔◌, Bool, true, List, length, map, replicate}
use Rattle.std.specs.Prelude.{take, slice_get, Some}
use Rattle.std.specs.List.{All, AllPairs, Contains}
use Rattle.bspl_types.specs.declared.event.Event.{Event}
use Rattle.bspl_types.specs.declared.event.Event.TheVariants.{Emit, Receive}
use Rattle.bspl_types.specs.declared.event.Instance.{Instance}
use Rattle.bspl_types.specs.declared.expanded.Expanded.{Expanded}
use Rattle.bspl_types.specs.declared.protocol.Adornment.TheVariants.{In, Out}
use Rattle.bspl_types.specs.declared.protocol.Carried.{Carried}
use Rattle.bspl_types.specs.declared.value.Value.{Value}
use Rattle.bspl_types.specs.declared.value.Value.TheVariants.{Number}
use Rattle.bspl_types.specs.History.{sender_history}
use Rattle.bspl_types.specs.Instance.{Fits, pairs}
use Rattle.clause_core.specs.Literal.{MakesTrue}
use Rattle.clause_encoding.specs.declared.variables.Variables.{Variables}
use Rattle.clause_encoding.specs.Variables.{IsKind, stands_before}
use Rattle.first_occurrences.specs.Occurrence.{kind_of}
use Rattle.role_knowledge.specs.FirstKnown.{IsFirstKnown}

-- the event kinds that the assignment makes occur, each once, each before the later ones
pub record AreOrdered (vars : Variables) (v : ℕ → Bool) (kinds : List ℕ) : Type 0 where
  pub occurring : (kind : ℕ) → Contains kinds kind ↔ (IsKind vars kind × (v kind ≡ true))
  pub ordered : AllPairs (λ i j. (i ≢ j) × MakesTrue v (stands_before vars i j)) kinds

-- the key that has the value 1 for each key parameter
abbrev pub key_of_ones : Expanded → List Value
key_of_ones x = replicate (length x.keys) (Number 1)

-- the value of a parameter of message `m` after these events: 1 for a key; else the message's
-- number, from 1, for an `out`, and for an `in` the first value that the sender knows
pub record IsWitnessValue (x : Expanded) (before : List Event) (m : ℕ) (pair : Carried × Value)
    : Type 0 where
  pub key : Contains x.keys pair.0.param → pair.1 ≡ Number 1
  pub out : ¬ Contains x.keys pair.0.param → pair.0.adornment ≡ Out → pair.1 ≡ Number (m + 1)
  pub first : ¬ Contains x.keys pair.0.param → pair.0.adornment ≡ In →
      IsFirstKnown x (sender_history x before m) (key_of_ones x) pair.0.param pair.1

-- the instance that is emitted after these events
pub record IsWitness (x : Expanded) (before : List Event) (i : Instance) : Type 0 where
  pub key : i.key ≡ key_of_ones x
  pub fits : Fits x i
  pub values : All (IsWitnessValue x before i.message) (pairs x i)

-- an emission is of such an instance; a reception is of an instance that was emitted before
abbrev pub IsWitnessEvent : Expanded → List Event → Event → Type 0
IsWitnessEvent x before (Emit i) = IsWitness x before i
IsWitnessEvent x before (Receive i) = Contains before (Emit i)

-- one event for each kind, in their order, each as it is to be after those before it
pub record IsRunOfKinds (x : Expanded) (kinds : List ℕ) (run : List Event) : Type 0 where
  pub kinds_of : map kind_of run ≡ kinds
  pub each : (position : ℕ) (event : Event) → slice_get run position ≡ Some event →
      IsWitnessEvent x (take position run) event

-- the run of an assignment
pub record IsRunOfAssignment (x : Expanded) (vars : Variables) (v : ℕ → Bool) (run : List Event)
    : Type 0 where
  pub kinds : List ℕ
  pub ordered : AreOrdered vars v kinds
  pub run_of : IsRunOfKinds x kinds run
