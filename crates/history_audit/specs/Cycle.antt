-- Receipts that wait for one another in a circle.
use Rattle.std.specs.Prelude.{◌≡◌, ◌≢◌, ℕ, ◌+◌, ◌<◌, ◌≤◌, List, [], ◌∷◌, length, slice_get, Some}
use Rattle.std.specs.Prelude.{slice_index_or}
use Rattle.std.specs.List.{All, AllPairs}
use Rattle.bspl_types.specs.declared.event.Event.{Event}
use Rattle.bspl_types.specs.declared.event.Event.TheVariants.{Receive}
use Rattle.bspl_types.specs.declared.event.Instance.{Instance}
use Rattle.bspl_types.specs.declared.expanded.Expanded.{Expanded}
use Rattle.bspl_types.specs.Expansion.{message_of}
use Rattle.run_index.specs.FirstEmission.{IsFirstEmission}
use Rattle.history_audit.specs.declared.audit_no.Point.{Point}
use Rattle.history_audit.specs.Histories.{events_at}

-- at the point, a place of its role's history from 1, is this event
pub record IsAt (histories : List (List Event)) (p : Point) (event : Event) : Type 0 where
  pub index : ℕ
  pub place_is : p.place ≡ index + 1
  pub at : slice_get (events_at histories p.role) index ≡ Some event

-- a receipt at the point waits for the first emission of its instance, which belongs to the other
-- point's role and comes after that point
pub record WaitsBehind (x : Expanded) (histories : List (List Event)) (p q : Point) : Type 0 where
  pub instance : Instance
  pub receipt : IsAt histories p (Receive instance)
  pub sender : (message_of x instance.message).sender ≡ q.role
  pub awaited : ℕ
  pub first : IsFirstEmission (events_at histories q.role) instance awaited
  pub emitted : awaited < length (events_at histories q.role)
  pub after : q.place < awaited + 1

-- each point waits behind the next one, and the last behind this one
abbrev pub WaitInTurn : Expanded → List (List Event) → List Point → Point → Type 0
WaitInTurn x histories [] end = Unit {0}
WaitInTurn x histories (p ∷ points) end =
    WaitsBehind x histories p (slice_index_or points 0 end) × WaitInTurn x histories points end

-- two points or more at different roles wait in turn, and the last behind the first, which has the
-- lowest role
pub record IsCycle (x : Expanded) (histories : List (List Event)) (points : List Point)
    : Type 0 where
  pub first : Point
  pub others : List Point
  pub split : points ≡ first ∷ others
  pub two : 0 < length others
  pub roles : AllPairs (λ p q. p.role ≢ q.role) points
  pub in_turn : WaitInTurn x histories points first
  pub lowest : All (λ p. first.role ≤ p.role) points
