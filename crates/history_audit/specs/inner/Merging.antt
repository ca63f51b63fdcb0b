-- How far the histories are merged into one run.
use Rattle.std.specs.Prelude.{◌≡◌, ℕ, ◌<◌, ◌≤◌, List, length, slice_get, slice_index_or, Some, take}
use Rattle.std.specs.List.{Contains}
use Rattle.bspl_types.specs.declared.event.Event.{Event}
use Rattle.bspl_types.specs.declared.event.Event.TheVariants.{Emit, Receive}
use Rattle.bspl_types.specs.declared.event.Instance.{Instance}
use Rattle.bspl_types.specs.declared.expanded.Expanded.{Expanded}
use Rattle.bspl_types.specs.Expansion.{message_of}
use Rattle.bspl_types.specs.History.{history_of}
use Rattle.enactment_model.specs.Legal.{IsLegalRun}
use Rattle.run_index.specs.FirstEmission.{IsFirstEmission}
use Rattle.history_audit.specs.Histories.{events_at}

-- how many events of the role's history are merged
abbrev pub cursor_at : List ℕ → ℕ → ℕ
cursor_at cursors role = slice_index_or cursors role 0

-- no more events are merged than a history has
abbrev pub AreWithin : List (List Event) → List ℕ → Type 0
AreWithin histories cursors =
    (role : ℕ) → cursor_at cursors role ≤ length (events_at histories role)

-- the run is legal, and has of each history the events before the role's cursor
pub record IsMerging (x : Expanded) (histories : List (List Event)) (cursors : List ℕ)
    (run : List Event) : Type 0 where
  pub count : length cursors ≡ length histories
  pub legal : IsLegalRun x run
  pub each : (role : ℕ) →
      history_of x role run ≡ take (cursor_at cursors role) (events_at histories role)
  pub within : AreWithin histories cursors

-- an emission may come at any time, a receipt once what it receives is merged
abbrev pub MayCome : Expanded → List (List Event) → List ℕ → Event → Type 0
MayCome x histories cursors (Emit i) = Unit {0}
MayCome x histories cursors (Receive i) =
    let sender = (message_of x i.message).sender in
    Contains (take (cursor_at cursors sender) (events_at histories sender)) (Emit i)

-- the role's next event may come
pub record IsReady (x : Expanded) (histories : List (List Event)) (cursors : List ℕ) (role : ℕ)
    : Type 0 where
  pub event : Event
  pub next : slice_get (events_at histories role) (cursor_at cursors role) ≡ Some event
  pub may : MayCome x histories cursors event

-- the event is a receipt, and the first emission of its instance is not merged
pub record IsHeldBack (x : Expanded) (histories : List (List Event)) (cursors : List ℕ)
    (event : Event) : Type 0 where
  pub instance : Instance
  pub receipt : event ≡ Receive instance
  pub awaited : ℕ
  pub first : IsFirstEmission (events_at histories (message_of x instance.message).sender)
      instance awaited
  pub later : cursor_at cursors (message_of x instance.message).sender ≤ awaited

-- the role's history is merged to its end, or its next event is held back
abbrev pub IsStuck : Expanded → List (List Event) → List ℕ → ℕ → Type 0
IsStuck x histories cursors role =
    (event : Event) → slice_get (events_at histories role) (cursor_at cursors role) ≡ Some event →
    IsHeldBack x histories cursors event

-- the role's history is not merged to its end
pub record IsUnfinished (histories : List (List Event)) (cursors : List ℕ) (role : ℕ)
    : Type 0 where
  pub left : cursor_at cursors role < length (events_at histories role)
