-- A circle of waiting points, wherever it begins.
use Rattle.std.specs.Prelude.{◌≡◌, ◌≢◌, ℕ, ◌<◌, ◌≤◌, List, ◌∷◌, length, slice_get, Some}
use Rattle.std.specs.List.{All, AllPairs}
use Rattle.bspl_types.specs.declared.event.Event.{Event}
use Rattle.bspl_types.specs.declared.expanded.Expanded.{Expanded}
use Rattle.history_audit.specs.declared.audit_no.Point.{Point}
use Rattle.history_audit.specs.Cycle.{WaitInTurn}

-- two points or more at different roles wait in turn, and the last behind the first
pub record IsRing (x : Expanded) (histories : List (List Event)) (points : List Point)
    : Type 0 where
  pub first : Point
  pub others : List Point
  pub split : points ≡ first ∷ others
  pub two : 0 < length others
  pub roles : AllPairs (λ p q. p.role ≢ q.role) points
  pub in_turn : WaitInTurn x histories points first

-- the point at the index has the lowest role
pub record IsLowest (points : List Point) (index : ℕ) : Type 0 where
  pub point : Point
  pub at : slice_get points index ≡ Some point
  pub lowest : All (λ p. point.role ≤ p.role) points

-- the point at the index is of the role
pub record HasRoleAt (points : List Point) (role index : ℕ) : Type 0 where
  pub point : Point
  pub at : slice_get points index ≡ Some point
  pub same : point.role ≡ role
