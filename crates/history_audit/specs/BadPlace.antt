-- Places of the histories that no run can explain, each for a reason of its own.
use Rattle.std.specs.Prelude.{◌≡◌, ℕ, ◌+◌, ◌<◌, List, slice_get, Some, take}
use Rattle.std.specs.List.{Contains}
use Rattle.bspl_types.specs.declared.event.Event.{Event}
use Rattle.bspl_types.specs.declared.event.Event.TheVariants.{Emit, Receive}
use Rattle.bspl_types.specs.declared.expanded.Expanded.{Expanded}
use Rattle.bspl_types.specs.Expansion.{message_of}
use Rattle.bspl_types.specs.Knowledge.{IsEnabled}
use Rattle.enactment_model.specs.BadEvent.{IsFirstReason}
use Rattle.enactment_model.specs.declared.bad_event.Why.{Why}
use Rattle.enactment_model.specs.declared.bad_event.Why.TheVariants.{Unsent}
use Rattle.history_audit.specs.Histories.{events_at}

-- an emission is enabled in its role's own events before it; what is received is emitted somewhere
-- in its sender's history
abbrev pub MayHappen : Expanded → List (List Event) → List Event → Event → Type 0
MayHappen x histories before (Emit i) = IsEnabled x before i
MayHappen x histories before (Receive i) =
    Contains (events_at histories (message_of x i.message).sender) (Emit i)

-- each event of the role's history may happen
abbrev pub HasNoBadPlace : Expanded → List (List Event) → ℕ → Type 0
HasNoBadPlace x histories role =
    (k : ℕ) (e : Event) → slice_get (events_at histories role) k ≡ Some e →
    MayHappen x histories (take k (events_at histories role)) e

-- so it is with each role: no place is bad
abbrev pub AllMayHappen : Expanded → List (List Event) → Type 0
AllMayHappen x histories = (role : ℕ) → HasNoBadPlace x histories role

-- why the event may not happen: an emission for its first parameter that its role's own events do
-- not allow, a receipt because it was never sent
abbrev pub IsWhy : Expanded → List Event → Event → Why → Type 0
IsWhy x before (Emit i) why = IsFirstReason x before i (message_of x i.message).carried why
IsWhy x before (Receive i) why = why ≡ Unsent

-- the event at the index of the role's history may not happen, for this reason
pub record IsBadAt (x : Expanded) (histories : List (List Event)) (role index : ℕ) (why : Why)
    : Type 0 where
  pub event : Event
  pub at : slice_get (events_at histories role) index ≡ Some event
  pub bad : ¬ MayHappen x histories (take index (events_at histories role)) event
  pub why_is : IsWhy x (take index (events_at histories role)) event why

-- the first bad place, from 1, of the first role that has one, and why it is bad
pub record IsFirstBadPlace (x : Expanded) (histories : List (List Event)) (role place : ℕ)
    (why : Why) : Type 0 where
  pub index : ℕ
  pub place_is : place ≡ index + 1
  pub bad : IsBadAt x histories role index why
  pub before : (k : ℕ) (e : Event) → k < index → slice_get (events_at histories role) k ≡ Some e →
      MayHappen x histories (take k (events_at histories role)) e
  pub lower_roles : (other : ℕ) → other < role → HasNoBadPlace x histories other
