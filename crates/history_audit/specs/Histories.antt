-- The histories of all roles, and the runs that explain them.
use Rattle.std.specs.Prelude.{◌≡◌, ℕ, List, [], length, slice_index_or}
use Rattle.std.specs.List.{All}
use Rattle.bspl_types.specs.declared.event.Event.{Event}
use Rattle.bspl_types.specs.declared.expanded.Expanded.{Expanded}
use Rattle.bspl_types.specs.History.{history_of, IsRun, role_of}
use Rattle.enactment_model.specs.Legal.{IsLegalRun}

-- the history of the role, in a list that has one for each role
abbrev pub events_at : List (List Event) → ℕ → List Event
events_at histories role = slice_index_or histories role []

-- there is one history for each role of the protocol; its events fit, and are that role's own
pub record AreHistories (x : Expanded) (histories : List (List Event)) : Type 0 where
  pub count : length histories ≡ length x.roles
  pub fit : (role : ℕ) → IsRun x (events_at histories role)
  pub own : (role : ℕ) → All (λ e. role_of x e ≡ role) (events_at histories role)

-- the run is legal, and in it each role has the history that was handed in
pub record Explains (x : Expanded) (run : List Event) (histories : List (List Event)) : Type 0 where
  pub legal : IsLegalRun x run
  pub each : (role : ℕ) → history_of x role run ≡ events_at histories role
