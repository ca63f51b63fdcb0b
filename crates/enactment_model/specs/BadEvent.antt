-- The first event of a run that may not follow those before it, and why.
use Rattle.std.specs.Prelude.{◌≡◌, ◌+◌, List, ◌∷◌, ◌++◌, length}
use Rattle.std.specs.List.{All, Contains}
use Rattle.bspl_types.specs.declared.event.Event.{Event}
use Rattle.bspl_types.specs.declared.event.Event.TheVariants.{Emit, Receive}
use Rattle.bspl_types.specs.declared.event.Instance.{Instance}
use Rattle.bspl_types.specs.declared.expanded.Expanded.{Expanded}
use Rattle.bspl_types.specs.declared.protocol.Adornment.TheVariants.{In}
use Rattle.bspl_types.specs.declared.protocol.Carried.{Carried}
use Rattle.bspl_types.specs.declared.value.Value.{Value}
use Rattle.bspl_types.specs.Expansion.{message_of}
use Rattle.bspl_types.specs.History.{history_of, sender_history}
use Rattle.bspl_types.specs.Instance.{Carries}
use Rattle.bspl_types.specs.Knowledge.{Knows}
use Rattle.role_knowledge.specs.Blocked.{IsBound, IsMissing, IsPermitted}
use Rattle.role_knowledge.specs.FirstKnown.{IsFirstKnown}
use Rattle.enactment_model.specs.declared.bad_event.BadEvent.{BadEvent}
use Rattle.enactment_model.specs.declared.bad_event.Why.{Why}
use Rattle.enactment_model.specs.declared.bad_event.Why.TheVariants.{Missing, Bound, Other, Unsent}
use Rattle.enactment_model.specs.Legal.{IsLegal}

-- the history's knowledge is as the adornment demands; of an `in` it knows the instance's value
pub record IsAllowed (x : Expanded) (history : List Event) (i : Instance) (c : Carried)
    : Type 0 where
  pub permitted : IsPermitted x history i.key c
  pub same : (v : Value) → c.adornment ≡ In → Carries x i In c.param v →
      Knows x history i.key c.param v

-- an `in` parameter is known, but not with the instance's value; this is the first value known
pub record HasOtherValue (x : Expanded) (history : List Event) (i : Instance) (c : Carried)
    (kept : Value) : Type 0 where
  pub adorned : c.adornment ≡ In
  pub value : Value
  pub carries : Carries x i In c.param value
  pub unknown : ¬ Knows x history i.key c.param value
  pub first : IsFirstKnown x history i.key c.param kept

-- why the parameter keeps the instance from being emitted
abbrev pub IsReasonOf : Expanded → List Event → Instance → Carried → Why → Type 0
IsReasonOf x history i c (Missing p) = (p ≡ c.param) × IsMissing x history i.key c
IsReasonOf x history i c (Bound p kept) = (p ≡ c.param) × IsBound x history i.key c kept
IsReasonOf x history i c (Other p kept) = (p ≡ c.param) × HasOtherValue x history i c kept
IsReasonOf x history i c Unsent = ⊥

-- the parameters before one are allowed, and that one keeps the instance from being emitted
pub record IsFirstReason (x : Expanded) (history : List Event) (i : Instance)
    (carried : List Carried) (why : Why) : Type 0 where
  pub before : List Carried
  pub refused : Carried
  pub after : List Carried
  pub split : carried ≡ before ++ refused ∷ after
  pub allowed : All (IsAllowed x history i) before
  pub reason : IsReasonOf x history i refused why

-- an emission has a first parameter that is not allowed; what is received was not emitted before
abbrev pub MayNotFollow : Expanded → List Event → Event → Why → Type 0
MayNotFollow x before (Emit i) why =
    IsFirstReason x (sender_history x before i.message) i (message_of x i.message).carried why
MayNotFollow x before (Receive i) why = (why ≡ Unsent) × ¬ Contains before (Emit i)

-- the events before one are legal, and that one may not follow them; places are counted from 1
pub record IsFirstBadEvent (x : Expanded) (run : List Event) (bad : BadEvent) : Type 0 where
  pub before : List Event
  pub event : Event
  pub after : List Event
  pub split : run ≡ before ++ event ∷ after
  pub legal : IsLegal x before
  pub place : bad.place ≡ length before + 1
  pub why : MayNotFollow x before event bad.why
