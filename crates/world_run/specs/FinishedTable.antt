-- What the table of a finished world has.
use Rattle.std.specs.Prelude.{◌≡◌, ℕ, ◌<◌, false, List, length, slice_get, Option, Some, IsSome}
use Rattle.bspl_types.specs.declared.event.Event.{Event}
use Rattle.bspl_types.specs.declared.expanded.Expanded.{Expanded}
use Rattle.bspl_types.specs.declared.value.Value.{Value}
use Rattle.bspl_types.specs.Knowledge.{Knows}
use Rattle.enactment_model.specs.Liveness.{HasPublicValue, LiveProtocol, Quiet}
use Rattle.enactment_model.specs.Safety.{SafeProtocol}
use Rattle.adapter.specs.Desk.{DeskState}
use Rattle.adapter.specs.Rules.{rules_of}
use Rattle.agent_scripts.specs.Job.{Job}
use Rattle.local_store.specs.State.{acts_of}
use Rattle.stamped_history.specs.Merged.{IsMerged}
use Rattle.stamped_history.specs.Rules.{IsNumber}
use Rattle.stamped_history.specs.TableValue.{IsTableValue}
use Rattle.world_run.specs.Finished.{IsFinished}
use Rattle.world_run.specs.World.{HasHistories, histories_of}

-- some store knows the value of the parameter under the key
pub record StoreKnows (x : Expanded) (desks : List DeskState) (key : List Value) (p : ℕ) (v : Value)
    : Type 0 where
  pub role : ℕ
  pub desk : DeskState
  pub at : slice_get desks role ≡ Some desk
  pub knows : Knows x (acts_of desk.store) key p v

-- the table of a run with the desks' histories has that value of the parameter, or none
pub record TableHas (x : Expanded) (desks : List DeskState) (key : List Value) (p : ℕ)
    (found : Option Value) : Type 0 where
  pub run : List Event
  pub histories : HasHistories x desks run
  pub value : IsTableValue x run key p found

-- the stores agree: what any of them knows of a parameter under a key is the value that the table
-- has
abbrev pub AgreeWithTable : Expanded → List DeskState → Type 0
AgreeWithTable x desks = (key : List Value) (p : ℕ) (v : Value) (found : Option Value) →
    StoreKnows x desks key p v → TableHas x desks key p found → found ≡ Some v

-- those of a finished world of a safe protocol do
abbrev pub FinishedStoresAgree : Type 0
FinishedStoresAgree = (job : Job) (desks : List DeskState) →
    SafeProtocol job.protocol → IsFinished job desks → AgreeWithTable job.protocol desks

-- the plan loses no message at the number, and the script declines none
pub record LetsAllPass (job : Job) (n : ℕ) : Type 0 where
  pub kept : (m : ℕ) → m < length job.protocol.messages → (rules_of job).loses m n ≡ false
  pub accepted : (m : ℕ) → m < length job.protocol.messages → (rules_of job).declines m n ≡ false

-- the merged run is quiet at the key, and the table has a value for each public parameter that is
-- adorned `in` or `out`
pub record IsCompleted (x : Expanded) (desks : List DeskState) (key : List Value) : Type 0 where
  pub quiet : (run : List Event) → IsMerged (histories_of desks) run → Quiet x run key
  pub bound : (p : ℕ) (found : Option Value) → HasPublicValue x p →
      TableHas x desks key p found → IsSome found

-- each workload key is completed, unless at its number a message is lost or declined
abbrev pub AreCompleted : Job → List DeskState → Type 0
AreCompleted job desks =
    (n : ℕ) (key : List Value) → IsNumber (rules_of job) n key → LetsAllPass job n →
    IsCompleted job.protocol desks key

-- so it is in a finished world of a live protocol
abbrev pub LiveKeysAreBound : Type 0
LiveKeysAreBound = (job : Job) (desks : List DeskState) →
    LiveProtocol job.protocol → IsFinished job desks → AreCompleted job desks
