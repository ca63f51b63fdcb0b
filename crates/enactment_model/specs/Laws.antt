-- What holds of every legal run. Each statement is the contract of a public function.
use Rattle.std.specs.Prelude.{◌≡◌, ◌↔◌, ℕ, List, take}
use Rattle.std.specs.List.{Contains}
use Rattle.bspl_types.specs.declared.event.Event.{Event}
use Rattle.bspl_types.specs.declared.event.Event.TheVariants.{Emit}
use Rattle.bspl_types.specs.declared.event.Instance.{Instance}
use Rattle.bspl_types.specs.declared.expanded.Expanded.{Expanded}
use Rattle.bspl_types.specs.declared.protocol.Adornment.TheVariants.{Out}
use Rattle.bspl_types.specs.declared.value.Value.{Value}
use Rattle.bspl_types.specs.Admission.{IsAdmitted}
use Rattle.bspl_types.specs.Expansion.{Adorns}
use Rattle.bspl_types.specs.History.{history_of, IsRun}
use Rattle.bspl_types.specs.Knowledge.{IsKnown}
use Rattle.enactment_model.specs.Binding.{HasBindingEvent}
use Rattle.enactment_model.specs.Legal.{EachMayFollow, IsLegal, IsLegalRun, MayFollow}
use Rattle.enactment_model.specs.Producers.{HasOneProducer}
use Rattle.enactment_model.specs.Projection.{KeepsEnactment}
use Rattle.enactment_model.specs.Safety.{Agree, HasNoConflict, SafeProtocol}

-- a run is legal exactly if the event at each position may follow the events before it
abbrev pub LegalByPositions : Type 0
LegalByPositions = (x : Expanded) (run : List Event) → IsLegal x run ↔ EachMayFollow x run

-- the first events of a legal run are legal
abbrev pub PrefixIsLegal : Type 0
PrefixIsLegal = (x : Expanded) (run : List Event) (n : ℕ) → IsLegal x run → IsLegal x (take n run)

-- and their instances fit if those of the run do
abbrev pub PrefixIsLegalRun : Type 0
PrefixIsLegalRun =
    (x : Expanded) (run : List Event) (n : ℕ) → IsLegalRun x run → IsLegalRun x (take n run)

-- the events of a legal run under one key keep the enactment of that key
abbrev pub ProjectionKeeps : Type 0
ProjectionKeeps =
    (x : Expanded) (run : List Event) (key : List Value) → IsLegalRun x run →
    KeepsEnactment x run key

-- a parameter is known under a key exactly if some event under the key has a message that adorns it
-- `in` or `out`
abbrev pub KnownExactlyIfSomeEventBinds : Type 0
KnownExactlyIfSomeEventBinds =
    (x : Expanded) (history : List Event) (key : List Value) (p : ℕ) → IsRun x history →
    ((IsKnown x history key p) ↔ (HasBindingEvent x history key p))

-- the instances of a role's history fit if those of the run do
abbrev pub HistoryIsRun : Type 0
HistoryIsRun =
    (x : Expanded) (run : List Event) (role : ℕ) → IsRun x run → IsRun x (history_of x role run)

-- a legal run of an admitted protocol agrees if it has no conflict
abbrev pub NoConflictAgrees : Type 0
NoConflictAgrees =
    (x : Expanded) (run : List Event) → IsAdmitted x → IsLegal x run → HasNoConflict x run →
    Agree x run

-- a second emission under one key of a message with an `out` parameter is never enabled
abbrev pub SecondEmissionIsNotEnabled : Type 0
SecondEmissionIsNotEnabled =
    (x : Expanded) (before : List Event) (first second : Instance) (p : ℕ) →
    IsRun x before → Contains before (Emit first) →
    second.message ≡ first.message → second.key ≡ first.key →
    Adorns x first.message Out p → ¬ MayFollow x before (Emit second)

-- an admitted protocol is safe if no parameter has two messages that produce it
abbrev pub OneProducerIsSafe : Type 0
OneProducerIsSafe = (x : Expanded) → HasOneProducer x → IsAdmitted x → SafeProtocol x
