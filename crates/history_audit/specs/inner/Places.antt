-- The first place of one history that is bad.
use Rattle.std.specs.Prelude.{◌≡◌, ℕ, ◌+◌, ◌<◌, ◌≤◌, List, length, slice_get, Some, take}
use Rattle.std.specs.List.{All}
use Rattle.bspl_types.specs.declared.event.Event.{Event}
use Rattle.bspl_types.specs.declared.expanded.Expanded.{Expanded}
use Rattle.bspl_types.specs.History.{role_of}
use Rattle.history_audit.specs.declared.bad_place.BadPlace.{BadPlace}
use Rattle.history_audit.specs.BadPlace.{IsBadAt, MayHappen}
use Rattle.history_audit.specs.Histories.{events_at}
use Rattle.history_audit.specs.inner.Waits.{IsSent}

-- the events are all the role's own
abbrev pub AreOwn : Expanded → ℕ → List Event → Type 0
AreOwn x role events = All (λ e. role_of x e ≡ role) events

-- the receipts before the index are of something sent, and the event there is none; if all are, the
-- index is the length
pub record IsFirstUnsent (x : Expanded) (histories : List (List Event)) (history : List Event)
    (found : ℕ) : Type 0 where
  pub within : found ≤ length history
  pub sent : (k : ℕ) (e : Event) → k < found → slice_get history k ≡ Some e → IsSent x histories e
  pub unsent : (e : Event) → slice_get history found ≡ Some e → ¬ IsSent x histories e

-- the events before the index may happen, and the one there may not; if all may, the index is the
-- length
pub record IsFirstBad (x : Expanded) (histories : List (List Event)) (history : List Event)
    (found : ℕ) : Type 0 where
  pub within : found ≤ length history
  pub fine : (k : ℕ) (e : Event) → k < found → slice_get history k ≡ Some e →
      MayHappen x histories (take k history) e
  pub bad : (e : Event) → slice_get history found ≡ Some e →
      ¬ MayHappen x histories (take found history) e

-- the first bad place of the role's history, and why it is bad
pub record IsFirstBadOf (x : Expanded) (histories : List (List Event)) (role : ℕ)
    (found : BadPlace) : Type 0 where
  pub index : ℕ
  pub same_role : found.role ≡ role
  pub place_is : found.place ≡ index + 1
  pub bad : IsBadAt x histories role index found.why
  pub before : (k : ℕ) (e : Event) → k < index → slice_get (events_at histories role) k ≡ Some e →
      MayHappen x histories (take k (events_at histories role)) e
